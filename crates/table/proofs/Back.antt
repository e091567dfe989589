-- What is written reads back as the same table, and what is read can be written. Assumes nothing.
use mathlib.Core.Path.{◌≡◌, ◌∙◌, refl, sym, ap, subst}
use mathlib.Core.Bool.{true}
use mathlib.Core.List.{List}
use Prim.Native.Nat.{ℕ, ◌^◌, ◌<◌}
use native.Mathlib.Omega.{arith}
use borrow.Author.Tests.{ltb-true, lt-ltb, le-leb, eqb-true, eq-eqb}
use lib.ListN.{length, get_or}
use lib.Pow.{pow_pos}
use Rattle.laws.specs.Bytes.{Bytes}
use Rattle.answer.specs.Rules.{Every, none, more}
use Rattle.answer.proofs.Steps.{first_holds, others_hold}
use Rattle.fields.specs.Fields.{width}
use Rattle.kinds.proofs.Sendable as Kinds-as-Sendable
use Rattle.kinds.proofs.Written as Kinds
use Rattle.forms.specs.Tables.{Table, known, numbered, tables, content, table_sent, fields, fill, fits}
use Rattle.forms.specs.Form.{form, opening_of, table_in}
use Rattle.forms.specs.Block.{Says, record_with, record_of}
use Rattle.forms.specs.Writing.{form_rules, write_rules}
use Rattle.forms.proofs.Formats.{owed}
use Rattle.forms.proofs.Judging.{form-said}
use Rattle.forms.proofs.Sendable.{Sendable, fitted_parts, sendable, content-sends, sends}
use Rattle.forms.proofs.Measures.{length-form}
use Rattle.forms.proofs.Forms.{form_in, in_form_lem}
use Rattle.table.specs.Reading.{accepted, read_block}
use Rattle.table.proofs.Exact.{accepted-says}

form_kind : (t : Table) → get_or (form t) 0 0 ≡ t.kind
unfolding form opening_of
form_kind t = refl

module _
    (application reserved filling : ℕ) (t : Table) (a : application < 32) (f : fits t ≡ true) (b : reserved < 2) (h : filling < 2 ^ fill t)
  where
    -- the record of a table says it, whatever its reserved bit and fill
    pub says-with : Says application (record_with application reserved filling t) t
    unfolding fields width
    says-with = Kinds.record-means tables application filling (content reserved t) owed a (content-sends reserved t (sendable t f) b) h table_sent

    -- whatever the reserved bit and the fill are, the same table is read (SCOPE 12.10), and no byte was mended
    pub reads-any : read_block application (record_with application reserved filling t) ≡ accepted t 0
    unfolding fields width
    reads-any = Kinds.reads-any tables application filling (content reserved t) owed a (content-sends reserved t (sendable t f) b) h table_sent

-- what is written reads back, with nothing mended
pub writes-back :
    (application : ℕ) (t : Table) → application < 32 → fits t ≡ true → read_block application (record_of application t) ≡ accepted t 0
writes-back application t a f = reads-any application 0 0 t a f (omega arith) (pow_pos (fill t))

-- of a form that writing takes: its table is read back, and that table's form is the one that was written
pub writes-back-form :
    (application : ℕ) (f : List ℕ) → Bytes f → Every (write_rules application f)
    → (read_block application (record_of application (table_in f)) ≡ accepted (table_in f) 0) × (form (table_in f) ≡ f)
unfolding form_rules
writes-back-form application f b e₀ =
    let e₃ = others_hold (others_hold (others_hold (others_hold e₀))) in
    let a : application < 32 = ltb-true application 32 (first_holds e₀) in
    let l : length f ≡ length (form (table_in f)) = eqb-true (length f) (length (form (table_in f))) (first_holds e₃) in
    (writes-back application (table_in f) a (first_holds (others_hold e₃)), in_form_lem f b l)

-- a table that a record says can be sent
said-sends : (application : ℕ) (r : List ℕ) (t : Table) → Says application r t → Sendable t
said-sends application r t s = subst Sendable s.meant (fitted_parts s.content (Kinds-as-Sendable.sendable tables s.content s.says.sendable))

pub said_fits : (application : ℕ) (r : List ℕ) (t : Table) → Says application r t → fits t ≡ true
said_fits application r t s = sends t (said-sends application r t s)

-- every accepted table is one that writing takes, and its form stands for it
pub accepted-writable :
    (application : ℕ) (r : List ℕ) (t : Table) (c : ℕ) → read_block application r ≡ accepted t c
    → Every (write_rules application (form t)) × (table_in (form t) ≡ t)
unfolding form_rules
accepted-writable application r t c e =
    let s = (accepted-says application r t c e).0 in
    let can = said-sends application r t s in
    let back = form_in t can in (
      more (lt-ltb application 32 s.says.within)
          (more (form-said (form t) (ap (λ (x : Table). numbered x.block) back ∙ can.edition))
          (more (le-leb 6 (length (form t)) (omega (arith, length-form t)))
          (more (ap known (form_kind t) ∙ can.kind_known)
          (more (eq-eqb (length (form t)) (length (form (table_in (form t)))) (ap (λ (x : Table). length (form x)) (sym back)))
          (more (ap fits back ∙ sends t can) none))))),
      back,
    )
