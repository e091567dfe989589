-- The two calls for a block, one after the other, for tables, for menus and for Application Information: what is written is read again, byte for byte the form that was
-- handed in, and what was read is written again, as a record that says the same. From the contracts alone. Assumes nothing.
use mathlib.Core.Path.{◌≡◌, ◌∙◌, sym, ap, ap₂, subst}
use mathlib.Core.List.{List, ◌++◌}
use Prim.Native.Nat.{ℕ, ◌≤◌}
use native.Mathlib.Omega.{arith}
use lib.ListN.{length, take, drop}
use lib.Pow.{pow_pos}
use lib.Seq.{take-append_seam}
use Rattle.std.specs.declared.result.Result.TheVariants.{Ok}
use Rattle.answer.specs.Answer.{Answer}
use Rattle.answer.specs.Rules.{Rule, Every}
use Rattle.answer.specs.Writing.{answered, left}
use Rattle.answer.proofs.Lent.{lent-accepted, lent-all}
use Rattle.blocks.specs.Block.{head_length}
use Rattle.forms.specs.Tables.{fill}
use Rattle.forms.specs.Form.{form, table_in}
use Rattle.forms.specs.Writing.{write_rules}
use Rattle.laws.specs.Bytes.{Bytes}
use Rattle.blocks.specs.Parts.{mended_in}
use Rattle.forms.specs.Block.{record_of, Says}
use Rattle.blocks.specs.Taking.{Read}
use Rattle.blocks.specs.Taking.{taken}
use Rattle.blocks.specs.Values.{counted}
use Rattle.blocks.proofs.Counting.{counted-takes}
use Rattle.blocks.proofs.Framed.{accepts}
use Rattle.table.specs.Reading.{read_rules, table_read}
use Rattle.table.proofs.Exact.{read_as_lem}
use Rattle.table.proofs.Back.{says-with, said_fits, writes-back-form}
use Rattle.table.proofs.Calls.{call_says}
use Rattle.menu_forms.specs.Form.{form as menu_form, menu_in}
use Rattle.menu_forms.specs.Writing.{write_rules as menu_write_rules}
use Rattle.menu_forms.specs.Block.{record_of as menu_record_of, Says as Menu-as-Says}
use Rattle.menu_reader.specs.Reading.{mended_control, menu_read, read_rules as menu_read_rules}
use Rattle.menu_reader.proofs.Written.{written_says}
use Rattle.menu_reader.proofs.Calls.{call_back, call-writable, call_says as menu_call_says}
use Rattle.information_forms.specs.Form.{form as information_form, information_in}
use Rattle.information_forms.specs.Writing.{write_rules as information_write_rules}
use Rattle.information_forms.specs.Kind.{record_of as information_record_of, Says as Information-as-Says}
use Rattle.information.specs.Reading.{information_read, mended_control as information_mended, read_rules as information_read_rules}
use Rattle.information.proofs.Exact.{written_says as information_written_says, call_back as information_call_back, call-writable as information_call_writable, call_says as information_call_says}
use Rattle.claims.specs.Calls.{Writes, Reads, WritesMenu, write-menu, ReadsMenu, read-menu, WritesInformation, write-information, ReadsInformation, read-information, reported}
use Rattle.claims.proofs.Calls.{writes, reads, its_bytes, writable}

-- a call that answers so many bytes wrote all of its own
written :
    (rules : List Rule) (bytes old : List ℕ) {n : ℕ} {out : List ℕ} → Ok n ≡ answered rules bytes old → out ≡ left rules bytes old
    → Every rules × (take n out ≡ bytes)
written rules bytes old {n} e f =
    let a = lent-all rules bytes old n (sym e) in
    (a.0, ap₂ take a.2 (f ∙ (lent-accepted rules bytes old a.0 a.1).1) ∙ take-append_seam bytes (drop (length bytes) old))

-- a form that stands at the front of an output, and is then written with room
module _ {T : Type 0} (form : T → List ℕ) (within : List ℕ → T) (record_for : T → List ℕ) (rules : List ℕ → List Rule) where
  again :
      (t : T) (old lent : List ℕ) {n : ℕ} {out after : List ℕ} {x : Answer} → n ≡ length (form t) → out ≡ form t ++ drop (length (form t)) old
      → Every (rules (form t)) × (within (form t) ≡ t) → x ≡ answered (rules (take n out)) (record_for (within (take n out))) lent
      → after ≡ left (rules (take n out)) (record_for (within (take n out))) lent → length (record_for t) ≤ length lent
      → (x ≡ Ok (length (record_for t))) × (reported x after ≡ record_for t)
  again t old lent {n} {out} long stands can e f enough =
      let same : take n out ≡ form t = ap₂ take long stands ∙ take-append_seam (form t) (drop (length (form t)) old) in
      its_bytes (rules (form t)) (record_for t) lent (rw (same, can.1) at e) (rw (same, can.1) at f) can.0 enough

-- ---- tables

-- what `write_block` wrote, `read_block` reads with room: the form that was handed in, with nothing mended
pub table-back :
    {application n : ℕ} {f old out lent after : List ℕ} {y : Read} → Bytes f → Writes application f old (Ok n) out
    → Reads application (take n out) lent y after → length f ≤ length lent
    → (y ≡ Ok (taken (length f) 0)) × (after ≡ f ++ drop (length f) lent)
table-back {application} {n} {f} {old} {out} {lent} {after} {y} b w call enough =
    let t = table_in f in
    let r = record_of application t in
    let p = written (write_rules application f) r old (writes w).0 (writes w).1 in
    let back = writes-back-form application f b p.0 in
    let a = accepts (read_rules application r) (table_read r) t (mended_in r) 0 (sym (read_as_lem application r) ∙ back.0) in
    let said = reads (subst (λ (l : List ℕ). Reads application l lent y after) p.1 call) in
    let q = counted-takes form (read_rules application r) (table_read r) (mended_in r) lent t a.0 a.1 (rw back.1 enough) in (
      said.0 ∙ q.0 ∙ ap₂ (λ (l : List ℕ) (c : ℕ). Ok (taken (length l) c)) back.1 a.2,
      said.1 ∙ q.1 ∙ ap (λ (l : List ℕ). l ++ drop (length l) lent) back.1,
    )

-- what `read_block` accepted and left, `write_block` takes with room: its record says the table that the record which was read says
pub table_again :
    {application n c : ℕ} {r old out lent after : List ℕ} {x : Answer} → Reads application r old (Ok (taken n c)) out
    → Writes application (take n out) lent x after → length (record_of application (table_read r)) ≤ length lent
    → Says application r (table_read r)
    × (x ≡ Ok (length (record_of application (table_read r))))
    × Says application (reported x after) (table_read r)
table_again {application} {n} {c} {r} {old} {out} {lent} call w enough =
    let t = table_read r in
    let said = call_says application r old n c (sym (reads call).0) in
    let s = said.0 in
    let can = said_fits application r t s in
    let p = again form table_in (record_of application) (write_rules application) t old lent said.1 ((reads call).1 ∙ said.3)
    (writable application t s.says.within can) (writes w).0 (writes w).1 enough in
    (s, p.0, rw p.1 (says-with application 0 0 t s.says.within can (omega arith) (pow_pos (fill t))))

-- ---- a kind with strings: its two calls, by what their contracts say

module _
    {T : Type 0} (form : T → List ℕ) (within found : List ℕ → T) (record_for : ℕ → T → List ℕ) (writing reading : ℕ → List ℕ → List Rule)
    (mended : List ℕ → ℕ)
  where
    -- what reading answers and leaves
    abbrev AsRead : ℕ → List ℕ → List ℕ → Read → List ℕ → Type 0
    AsRead application r lent y after =
        (y ≡ counted (mended r) (answered (reading application r) (form (found r)) lent)) × (after ≡ left (reading application r) (form (found r)) lent)

    -- what writing answers and leaves
    abbrev AsWritten : ℕ → List ℕ → List ℕ → Answer → List ℕ → Type 0
    AsWritten application f old x out =
        (x ≡ answered (writing application f) (record_for application (within f)) old) × (out ≡ left (writing application f) (record_for application (within f)) old)

    spoken-back :
        (application : ℕ) (f old lent : List ℕ) {n : ℕ} {out after : List ℕ} {y : Read}
        → (Every (writing application f) → AsRead application (record_for application (within f)) lent (Ok (taken (length f) 0)) (f ++ drop (length f) lent))
        → AsWritten application f old (Ok n) out → AsRead application (take n out) lent y after
        → (y ≡ Ok (taken (length f) 0)) × (after ≡ f ++ drop (length f) lent)
    spoken-back application f old lent {n} {out} {after} {y} back w call =
        let p = written (writing application f) (record_for application (within f)) old w.0 w.1 in
        let said = subst (λ (r : List ℕ). AsRead application r lent y after) p.1 call in
        let q = back p.0 in
        (said.0 ∙ sym q.0, said.1 ∙ sym q.1)

    module _ (Said : ℕ → List ℕ → T → Type 0) where
      spoken-again :
          (application : ℕ) (r old lent : List ℕ) {n : ℕ} {out after : List ℕ} {x : Answer} → Said application r (found r) → n ≡ length (form (found r))
          → out ≡ form (found r) ++ drop (length (form (found r))) old
          → Every (writing application (form (found r))) × (within (form (found r)) ≡ found r)
          → (Every (writing application (form (found r))) → Said application (record_for application (within (form (found r)))) (within (form (found r))))
          → AsWritten application (take n out) lent x after
          → length (record_for application (found r)) ≤ length lent
          → Said application r (found r) × (x ≡ Ok (length (record_for application (found r)))) × Said application (reported x after) (found r)
      spoken-again application r old lent said long stands can says w enough =
          let p = again form within (record_for application) (writing application) (found r) old lent long stands can w.0 w.1 enough in
          let own = subst (λ (t : T). Said application (record_for application t) t) can.1 (says can.0) in
          (said, p.0, subst (λ (l : List ℕ). Said application l (found r)) (sym p.1) own)

-- ---- menus

writes-menu :
    {application : ℕ} {f old out : List ℕ} {x : Answer} → WritesMenu application f old x out
    → (x ≡ answered (menu_write_rules application f) (menu_record_of application (menu_in f)) old)
    × (out ≡ left (menu_write_rules application f) (menu_record_of application (menu_in f)) old)
writes-menu (write-menu κs a x t post) = post

reads-menu :
    {application : ℕ} {r old out : List ℕ} {x : Read} → ReadsMenu application r old x out
    → (x ≡ counted (mended_control r) (answered (menu_read_rules application r) (menu_form (menu_read (drop head_length r))) old))
    × (out ≡ left (menu_read_rules application r) (menu_form (menu_read (drop head_length r))) old)
reads-menu (read-menu κs a x t post) = post

-- what `write_menu` wrote, `read_menu` reads with room: the form that was handed in, with nothing mended
pub menu-back :
    {application n : ℕ} {f old out lent after : List ℕ} {y : Read} → Bytes f → WritesMenu application f old (Ok n) out
    → ReadsMenu application (take n out) lent y after → length f ≤ length lent
    → (y ≡ Ok (taken (length f) 0)) × (after ≡ f ++ drop (length f) lent)
menu-back {application} {n} {f} {old} {out} {lent} b w call enough =
    spoken-back menu_form menu_in (λ r. menu_read (drop head_length r)) menu_record_of menu_write_rules menu_read_rules mended_control application f old lent
    (λ e. let q = call_back application f lent b e enough in (sym q.0, sym q.1)) (writes-menu w) (reads-menu call)

-- what `read_menu` accepted and left, `write_menu` takes with room: its record says the menu that the record which was read says
pub menu_again :
    {application n c : ℕ} {r old out lent after : List ℕ} {x : Answer} → Bytes r → ReadsMenu application r old (Ok (taken n c)) out
    → WritesMenu application (take n out) lent x after → length (menu_record_of application (menu_read (drop head_length r))) ≤ length lent
    → Menu-as-Says application r (menu_read (drop head_length r))
    × (x ≡ Ok (length (menu_record_of application (menu_read (drop head_length r)))))
    × Menu-as-Says application (reported x after) (menu_read (drop head_length r))
menu_again {application} {n} {c} {r} {old} {out} {lent} b call w enough =
    let said = menu_call_says application r old n c b (sym (reads-menu call).0) in
    let can = call-writable application r old n c b (sym (reads-menu call).0) in
    spoken-again menu_form menu_in (λ r. menu_read (drop head_length r)) menu_record_of menu_write_rules menu_read_rules mended_control Menu-as-Says application r old lent
    said.0 said.1 ((reads-menu call).1 ∙ said.3) can (written_says application (menu_form (menu_read (drop head_length r)))) (writes-menu w) enough

-- ---- Application Information

writes-information :
    {application : ℕ} {f old out : List ℕ} {x : Answer} → WritesInformation application f old x out
    → (x ≡ answered (information_write_rules application f) (information_record_of application (information_in f)) old)
    × (out ≡ left (information_write_rules application f) (information_record_of application (information_in f)) old)
writes-information (write-information κs a x t post) = post

reads-information :
    {application : ℕ} {r old out : List ℕ} {x : Read} → ReadsInformation application r old x out
    → (x ≡ counted (information_mended r) (answered (information_read_rules application r) (information_form (information_read (drop head_length r))) old))
    × (out ≡ left (information_read_rules application r) (information_form (information_read (drop head_length r))) old)
reads-information (read-information κs a x t post) = post

-- what `write_information` wrote, `read_information` reads with room: the form that was handed in, with nothing mended
pub information-back :
    {application n : ℕ} {f old out lent after : List ℕ} {y : Read} → Bytes f → WritesInformation application f old (Ok n) out
    → ReadsInformation application (take n out) lent y after → length f ≤ length lent
    → (y ≡ Ok (taken (length f) 0)) × (after ≡ f ++ drop (length f) lent)
information-back {application} {n} {f} {old} {out} {lent} b w call enough =
    spoken-back information_form information_in (λ r. information_read (drop head_length r)) information_record_of information_write_rules information_read_rules information_mended application
    f old lent
    (λ e. let q = information_call_back application f lent b e enough in (sym q.0, sym q.1)) (writes-information w) (reads-information call)

-- what `read_information` accepted and left, `write_information` takes with room: its record says what the record which was read says
pub information_again :
    {application n c : ℕ} {r old out lent after : List ℕ} {x : Answer} → Bytes r → ReadsInformation application r old (Ok (taken n c)) out
    → WritesInformation application (take n out) lent x after → length (information_record_of application (information_read (drop head_length r))) ≤ length lent
    → Information-as-Says application r (information_read (drop head_length r))
    × (x ≡ Ok (length (information_record_of application (information_read (drop head_length r)))))
    × Information-as-Says application (reported x after) (information_read (drop head_length r))
information_again {application} {n} {c} {r} {old} {out} {lent} b call w enough =
    let said = information_call_says application r old n c b (sym (reads-information call).0) in
    let can = information_call_writable application r old n c b (sym (reads-information call).0) in
    spoken-again information_form information_in (λ r. information_read (drop head_length r)) information_record_of information_write_rules information_read_rules information_mended
    Information-as-Says application r old lent said.0 said.1 ((reads-information call).1 ∙ said.3) can
    (information_written_says application (information_form (information_read (drop head_length r)))) (writes-information w) enough
