-- Application Information is read exactly: what is accepted is what a record says, what is written reads back, what is accepted can be
-- written. From what holds of any kind. Assumes nothing.
use mathlib.Core.Path.{◌≡◌, ◌∙◌, ap, subst}
use mathlib.Core.Logic.{◌↔◌}
use mathlib.Core.Bool.{true}
use mathlib.Core.List.{List, ◌++◌}
use Prim.Native.Nat.{ℕ, ◌≤◌, ◌<◌}
use borrow.Author.Tests.{ltb-true, lt-ltb, eqb-true}
use lib.ListN.{length, get_or, drop}
use lib.Pow.{pow_pos}
use Rattle.std.specs.declared.result.Result.TheVariants.{Ok}
use Rattle.laws.specs.Bytes.{Bytes}
use Rattle.answer.specs.Rules.{Every, more}
use Rattle.answer.specs.Writing.{answered, left}
use Rattle.answer.proofs.Steps.{first_holds, others_hold}
use Rattle.blocks.specs.Outcome.{accepted}
use Rattle.blocks.specs.Taking.{Read}
use Rattle.blocks.specs.Taking.{taken}
use Rattle.blocks.specs.Values.{counted}
use Rattle.kinds.specs.Kind.{Content, fill, fits as sendable}
use Rattle.kinds.specs.Block.{record_with}
use Rattle.kinds.proofs.Exact as Kinds
use Rattle.kinds.proofs.Written as KindsWritten
use Rattle.kinds.proofs.Calls as KindsCalls
use Rattle.information_forms.specs.Information.{Information, AI, Behind}
use Rattle.information_forms.specs.Form.{form, information_in}
use Rattle.information_forms.specs.Kind.{information, value, content, fits, record_of, Says}
use Rattle.information_forms.specs.Writing.{form_rules, write_rules}
use Rattle.information_forms.proofs.Formed.{in_form_lem}
use Rattle.information_forms.proofs.Sending.{Short, owed, spare_none, sent_back, form-taken, names-short}
use Rattle.information.specs.Reading.{read_rules, information_read, mended_control, read_information}

-- accepted as this information, with this count, exactly when the record says it and the count is its own
pub reads_exactly :
    (application : ℕ) (r : List ℕ) (i : Information) (m : ℕ) → Bytes r
    → (read_information application r ≡ accepted i m) ↔ (Says application r i × (m ≡ mended_control r))
reads_exactly application r i m b = Kinds.reads_exactly information owed value application r i m (λ e. b)

-- a count is at most 5 and twice the greatest control size
pub mended_most_lem : (application : ℕ) (r : List ℕ) → Every (read_rules application r) → mended_control r ≤ 2051
mended_most_lem application r e = Kinds.mended_most_lem information owed application r e

-- what is written reads back, with nothing mended
pub writes-back :
    (application : ℕ) (i : Information) → application < 32 → fits i ≡ true → read_information application (record_of application i) ≡ accepted i 0
writes-back application i a f = KindsWritten.reads-any information application 0 (content i) owed a f (pow_pos (fill information (content i))) value

-- whatever the bits are that are no part of it
pub reads-any :
    (application : ℕ) (c : Content Behind) → application < 32 → sendable information c ≡ true
    → read_information application (record_with information application 0 c) ≡ accepted (value c) 0
reads-any application c a f = KindsWritten.reads-any information application 0 c owed a f (pow_pos (fill information c)) value

-- information that a record says can be sent
pub says_fits : (application : ℕ) (r : List ℕ) (i : Information) → Says application r i → fits i ≡ true
says_fits application r i s = subst (λ (x : Information). fits x ≡ true) s.meant (spare_none s.content s.says.sendable)

-- annex E: what is accepted has names of at most 31 codes
pub accepted-short : (application : ℕ) (r : List ℕ) (i : Information) (m : ℕ) → Bytes r → read_information application r ≡ accepted i m → Short i
accepted-short application r i m b e = names-short i (says_fits application r i ((reads_exactly application r i m b).0 e).0)

-- ---- forms

-- a form that writing takes is of information that can be sent, and the record that is written says it
pub written_says :
    (application : ℕ) (f : List ℕ) → Every (write_rules application f) → Says application (record_of application (information_in f)) (information_in f)
unfolding form_rules
written_says application f e =
    let i = information_in f in
    KindsWritten.record-means information application 0 (content i) owed (ltb-true application 32 (first_holds e))
    (first_holds (others_hold (others_hold (others_hold (others_hold e))))) (pow_pos (fill information (content i))) value

-- of a form that writing takes: its information is read back, and that information's form is the one that was written
pub writes-back-form :
    (application : ℕ) (f : List ℕ) → Bytes f → Every (write_rules application f)
    → (read_information application (record_of application (information_in f)) ≡ accepted (information_in f) 0) × (form (information_in f) ≡ f)
unfolding form_rules
writes-back-form application f b e =
    let e₂ = others_hold (others_hold e) in
    let l : length f ≡ length (form (information_in f)) = eqb-true (length f) (length (form (information_in f))) (first_holds (others_hold e₂)) in (
      writes-back application (information_in f) (ltb-true application 32 (first_holds e)) (first_holds (others_hold (others_hold e₂))),
      in_form_lem f b (eqb-true (get_or f 0 0) AI (first_holds e₂)) l,
    )

-- information that a record says is some that writing takes, and its form stands for it
pub says_writable :
    (application : ℕ) (r : List ℕ) (i : Information) → Says application r i → Every (write_rules application (form i)) × (information_in (form i) ≡ i)
says_writable application r i s =
    let f = says_fits application r i s in
    (more (lt-ltb application 32 s.says.within) (form-taken i f), sent_back i f)

-- so is all that is accepted
pub accepted-writable :
    (application : ℕ) (r : List ℕ) (i : Information) (m : ℕ) → Bytes r → read_information application r ≡ accepted i m
    → Every (write_rules application (form i)) × (information_in (form i) ≡ i)
accepted-writable application r i m b e = says_writable application r i ((reads_exactly application r i m b).0 e).0

-- ---- calls

-- what the call finds in a record, and what it answers
abbrev pub found : List ℕ → Information
found r = information_read (drop 4 r)

abbrev pub call_reads : ℕ → List ℕ → List ℕ → Read
call_reads application r old = counted (mended_control r) (answered (read_rules application r) (form (found r)) old)

abbrev pub call_leaves : ℕ → List ℕ → List ℕ → List ℕ
call_leaves application r old = left (read_rules application r) (form (found r)) old

-- a record that says i, with room: i's form stands at the front of the output, and the count is its own
pub call-takes :
    (application : ℕ) (r old : List ℕ) (i : Information) → Says application r i → length (form i) ≤ length old
    → (call_reads application r old ≡ Ok (taken (length (form i)) (mended_control r))) × (call_leaves application r old ≡ form i ++ drop (length (form i)) old)
call-takes application r old i s h = KindsCalls.call-takes information owed value form application r old i s h

-- a record that the call accepts says the information whose form it hands out, and the count is its own
pub call_says :
    (application : ℕ) (r old : List ℕ) (n m : ℕ) → Bytes r → call_reads application r old ≡ Ok (taken n m)
    → Says application r (found r)
    × (n ≡ length (form (found r)))
    × (m ≡ mended_control r)
    × (call_leaves application r old ≡ form (found r) ++ drop (length (form (found r))) old)
call_says application r old n m b e = KindsCalls.call_says information owed value form application r old n m (λ x. b) e

-- a form that writing takes, written and read again by calls with room: it comes back byte for byte, with nothing mended
pub call_back :
    (application : ℕ) (f old : List ℕ) → Bytes f → Every (write_rules application f) → length f ≤ length old
    → (call_reads application (record_of application (information_in f)) old ≡ Ok (taken (length f) 0))
    × (call_leaves application (record_of application (information_in f)) old ≡ f ++ drop (length f) old)
unfolding form_rules
call_back application f old b e h =
    let i = information_in f in
    let same : form i ≡ f = (writes-back-form application f b e).1 in
    let p = KindsCalls.call_back information owed value form application 0 (content i) old (ltb-true application 32 (first_holds e))
    (first_holds (others_hold (others_hold (others_hold (others_hold e))))) (pow_pos (fill information (content i))) (rw same h) in
    (p.0 ∙ ap (λ (x : List ℕ). Ok (taken (length x) 0)) same, p.1 ∙ ap (λ (x : List ℕ). x ++ drop (length x) old) same)

-- and what a call hands out writing takes, as the same information
pub call-writable :
    (application : ℕ) (r old : List ℕ) (n m : ℕ) → Bytes r → call_reads application r old ≡ Ok (taken n m)
    → Every (write_rules application (form (found r))) × (information_in (form (found r)) ≡ found r)
call-writable application r old n m b e = says_writable application r (found r) (call_says application r old n m b e).0
