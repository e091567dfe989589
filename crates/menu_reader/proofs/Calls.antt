-- The reading call and the outcome that is exact: given room, the call is accepted as a menu, with a count, exactly when the record says
-- it and has that count. Assumes nothing.
use mathlib.Core.Path.{◌≡◌, ◌∙◌, ap}
use mathlib.Core.List.{List, ◌++◌}
use Prim.Native.Nat.{ℕ, ◌≤◌}
use lib.ListN.{length, drop}
use lib.Pow.{pow_pos}
use borrow.Author.Tests.{ltb-true}
use Rattle.std.specs.declared.result.Result.TheVariants.{Ok}
use Rattle.blocks.specs.Block.{head_length}
use Rattle.answer.specs.Rules.{Every}
use Rattle.answer.specs.Writing.{left}
use Rattle.answer.proofs.Steps.{first_holds}
use Rattle.laws.specs.Bytes.{Bytes}
use Rattle.blocks.specs.Taking.{Read}
use Rattle.blocks.specs.Taking.{taken}
use Rattle.kinds.specs.Kind.{fill}
use Rattle.kinds.proofs.Calls as Kinds
use Rattle.menu_forms.specs.Menus.{Menu, zeros, navigation, content, menu_sent, fits}
use Rattle.menu_forms.specs.Form.{form, menu_in}
use Rattle.menu_forms.specs.Block.{record_of, Says}
use Rattle.menu_forms.specs.Writing.{write_rules}
use Rattle.menu_forms.proofs.Formats.{owed}
use Rattle.menu_reader.specs.Reading.{mended_control, menu_read, read_rules}
use Rattle.menu_reader.proofs.Written.{written_says, writes-back-form, said_fits, says_writable}

-- the menu that the call finds in a record
abbrev pub found : List ℕ → Menu
found r = menu_read (drop head_length r)

module _ (application : ℕ) (r : List ℕ) (old : List ℕ) where
  -- what the call answers
  abbrev pub call_reads : Read
  call_reads = Kinds.call_reads navigation owed menu_sent form application r old

  -- a record that says m, with room: m's form stands at the front of the output, and the count is its own
  pub call-takes :
      (m : Menu) → Says application r m → length (form m) ≤ length old
      → (call_reads ≡ Ok (taken (length (form m)) (mended_control r)))
      × (left (read_rules application r) (form (found r)) old ≡ form m ++ drop (length (form m)) old)
  call-takes = Kinds.call-takes navigation owed menu_sent form application r old

  -- a record that the call accepts says the menu whose form it hands out, and the count is its own
  pub call_says :
      (n c : ℕ) → Bytes r → call_reads ≡ Ok (taken n c)
      → Says application r (found r)
      × (n ≡ length (form (found r)))
      × (c ≡ mended_control r)
      × (left (read_rules application r) (form (found r)) old ≡ form (found r) ++ drop (length (form (found r))) old)
  call_says n c b = Kinds.call_says navigation owed menu_sent form application r old n c (λ t. b)

-- a form that writing takes, written and read again by calls with room: it comes back byte for byte, with nothing mended
pub call_back :
    (application : ℕ) (f old : List ℕ) → Bytes f → Every (write_rules application f) → length f ≤ length old
    → (call_reads application (record_of application (menu_in f)) old ≡ Ok (taken (length f) 0))
    × (left (read_rules application (record_of application (menu_in f))) (form (found (record_of application (menu_in f)))) old
    ≡ f ++ drop (length f) old)
unfolding fits
call_back application f old b e h =
    let m = menu_in f in
    let same : form m ≡ f = (writes-back-form application f b e).1 in
    let can = said_fits application (record_of application m) m (written_says application f e) in
    let p =
    Kinds.call_back navigation owed menu_sent form application 0 (content zeros m) old (ltb-true application 32 (first_holds e)) can
    (pow_pos (fill navigation (content zeros m))) (rw same h) in
    (p.0 ∙ ap (λ (x : List ℕ). Ok (taken (length x) 0)) same, p.1 ∙ ap (λ (x : List ℕ). x ++ drop (length x) old) same)

-- and what a call hands out writing takes, as the same menu
pub call-writable :
    (application : ℕ) (r old : List ℕ) (n c : ℕ) → Bytes r → call_reads application r old ≡ Ok (taken n c)
    → Every (write_rules application (form (found r))) × (menu_in (form (found r)) ≡ found r)
call-writable application r old n c b e = says_writable application r (found r) (call_says application r old n c b e).0
