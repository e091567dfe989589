-- The promises of a table's descriptor (SCOPE 29.8), of the calls themselves, from their contracts alone: what is written is read as the table's
-- subtitles; two tables give one descriptor exactly when their subtitles are the same; reading accepts exactly what has tag and length.
-- Assumes nothing.
use mathlib.Core.Path.{◌≡◌, ◌∙◌, sym, ap}
use mathlib.Core.Logic.{◌↔◌}
use mathlib.Core.List.{List}
use Prim.Native.Nat.{ℕ, ◌+◌, ◌*◌, ◌≤◌}
use lib.ListN.{length}
use Rattle.std.specs.declared.result.Result.TheVariants.{Ok}
use Rattle.answer.specs.Answer.{Answer}
use Rattle.answer.specs.Rules.{Rule}
use Rattle.answer.specs.Writing.{answered, left}
use Rattle.answer.proofs.Lent.{lent-accepted, lent-all}
use Rattle.forms.specs.Form.{table_in}
use Rattle.dvb_descriptor.specs.Subtitles.{subtitles_of}
use Rattle.dvb_descriptor.specs.Calls.{write_rules, descriptor_of, packed, read_rules, Descriptive, handed, read_of}
use Rattle.dvb_descriptor.proofs.Back.{packed-holds, packed-read, packed_alike, reads_exactly}
use Rattle.claims.specs.Calls.{reported}
use Rattle.claims.specs.Sheets.{Accepted}
use Rattle.claims.specs.Descriptors.{WritesDescriptor, write-descriptor, ReadsDescriptor, read-descriptor}
use Rattle.claims.proofs.Calls.{its_bytes}

writes :
    {f old out : List ℕ} {x : Answer} → WritesDescriptor f old x out
    → (x ≡ answered (write_rules f) (descriptor_of (table_in f)) old) × (out ≡ left (write_rules f) (descriptor_of (table_in f)) old)
writes (write-descriptor κs a x t post) = post

reads :
    {b old out : List ℕ} {x : Answer} → ReadsDescriptor b old x out
    → (x ≡ answered (read_rules b) (read_of b) old) × (out ≡ left (read_rules b) (read_of b) old)
reads (read-descriptor κs a x t post) = post

-- what an accepted call reports is the table's descriptor
reports : {f old out : List ℕ} {x : Answer} → WritesDescriptor f old x out → Accepted x → reported x out ≡ descriptor_of (table_in f)
reports {f} {old} call (n, d) =
    let c = writes call in
    let w = lent-all (write_rules f) (descriptor_of (table_in f)) old n (sym c.0 ∙ d) in
    (its_bytes (write_rules f) (descriptor_of (table_in f)) old c.0 c.1 w.0 w.1).1

-- written and read with room: the number of the table's subtitles, 0 passed over, and language, magazine and page of each, in order
pub descriptor-back :
    {f old out old' out' : List ℕ} {x y : Answer} → WritesDescriptor f old x out → Accepted x → ReadsDescriptor (reported x out) old' y out'
    → length (handed 0 (subtitles_of (table_in f))) ≤ length old' → Accepted y × (reported y out' ≡ handed 0 (subtitles_of (table_in f)))
descriptor-back {f} {old' = old'} call a call' room =
    let ss = subtitles_of (table_in f) in
    let r = rw (reports call a, packed-read f) at (reads call') in
    let p = its_bytes (read_rules (packed ss)) (handed 0 ss) old' r.0 r.1 (packed-holds f) room in
    ((length (handed 0 ss), p.0), p.1)

-- two tables give one descriptor exactly when their subtitles, one after the other, are the same
pub descriptors_alike :
    {f g old old' out out' : List ℕ} {x y : Answer} → WritesDescriptor f old x out → Accepted x → WritesDescriptor g old' y out' → Accepted y
    → (reported x out ≡ reported y out') ↔ (subtitles_of (table_in f) ≡ subtitles_of (table_in g))
descriptors_alike {f} {g} call a call' b = rw (reports call a, reports call' b) (packed_alike f g)

-- reading accepts exactly the bytes whose tag and length fit, where there is room
pub descriptor_exactly :
    {b old out : List ℕ} {x : Answer} → ReadsDescriptor b old x out → Accepted x ↔ (Descriptive b × (length (read_of b) ≤ length old))
descriptor_exactly {b} {old} {out} {x} call = (to, from)
  where
    to : Accepted x → Descriptive b × (length (read_of b) ≤ length old)
    to (n, d) = let w = lent-all (read_rules b) (read_of b) old n (sym (reads call).0 ∙ d) in ((reads_exactly b).0 w.0, w.1)

    from : Descriptive b × (length (read_of b) ≤ length old) → Accepted x
    from (h, room) = (length (read_of b), (reads call).0 ∙ (lent-accepted (read_rules b) (read_of b) old ((reads_exactly b).1 h) room).0)
