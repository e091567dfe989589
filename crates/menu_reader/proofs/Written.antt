-- What is written reads back as the same menu, and what is read can be written. Assumes nothing.
use mathlib.Core.Path.{◌≡◌, ◌∙◌, sym, ap}
use mathlib.Core.Bool.{true}
use mathlib.Core.List.{List}
use Prim.Native.Nat.{ℕ, ◌^◌, ◌<◌}
use borrow.Author.Tests.{lt-ltb, ltb-true, eqb-true}
use lib.ListN.{length, get_or}
use lib.Pow.{pow_pos}
use Rattle.laws.specs.Bytes.{Bytes}
use Rattle.answer.specs.Rules.{Every, more}
use Rattle.answer.proofs.Steps.{first_holds, others_hold}
use Rattle.blocks.specs.Outcome.{accepted}
use Rattle.kinds.specs.Kind.{fill}
use Rattle.kinds.proofs.Written as Kinds
use Rattle.menu_forms.specs.Menus.{Menu, Spare, NI, zeros, navigation, content, menu_sent, fill_up, fits}
use Rattle.menu_forms.specs.Form.{form, menu_in}
use Rattle.menu_forms.specs.Block.{record_with, record_of, Says}
use Rattle.menu_forms.specs.Writing.{form_rules, write_rules}
use Rattle.menu_forms.proofs.Forms.{form-back, form-taken}
use Rattle.menu_forms.proofs.Formed.{in_form_lem}
use Rattle.menu_forms.proofs.Formats.{owed, plain_fits, spare_fits}
use Rattle.menu_reader.specs.Reading.{read_menu}
use Rattle.menu_reader.proofs.Exact.{accepted-says}

-- whatever the spare bits are that fit, the same menu is read (SCOPE 23.3), and no byte was mended: fill_up_2 is 0 where there is none
pub reads-any :
    (application : ℕ) (spare : Spare) (m : Menu) → application < 32 → fits m ≡ true → spare.reserved < 2 → spare.first < 2
    → spare.second < 16
    → (fill_up (length m.descriptors)).whole spare.second ≡ true
    → read_menu application (record_with application spare m) ≡ accepted m 0
reads-any application spare m a f p q t w =
    Kinds.reads-any navigation application 0 (content spare m) owed a (spare_fits spare m f p q t w) (pow_pos (fill navigation (content spare m))) menu_sent

module _ (application : ℕ) (m : Menu) (a : application < 32) (f : fits m ≡ true) where
  abbrev nothing : 0 < 2 ^ fill navigation (content zeros m)
  nothing = pow_pos (fill navigation (content zeros m))

  -- what is written reads back, with nothing mended
  pub writes-back : read_menu application (record_of application m) ≡ accepted m 0
  unfolding fits
  writes-back = Kinds.reads-any navigation application 0 (content zeros m) owed a f nothing menu_sent

  -- and says the menu
  pub record-says : Says application (record_of application m) m
  unfolding fits
  record-says = Kinds.record-means navigation application 0 (content zeros m) owed a f nothing menu_sent

-- a form that writing takes is of a menu that can be sent, and the record that is written says it
pub written_says : (application : ℕ) (f : List ℕ) → Every (write_rules application f) → Says application (record_of application (menu_in f)) (menu_in f)
unfolding form_rules
written_says application f e₀ =
    record-says application (menu_in f) (ltb-true application 32 (first_holds e₀)) (first_holds (others_hold (others_hold (others_hold (others_hold e₀)))))

-- of a form that writing takes: its menu is read back, and that menu's form is the one that was written
pub writes-back-form :
    (application : ℕ) (f : List ℕ) → Bytes f → Every (write_rules application f)
    → (read_menu application (record_of application (menu_in f)) ≡ accepted (menu_in f) 0) × (form (menu_in f) ≡ f)
unfolding form_rules
writes-back-form application f b e₀ =
    let e₂ = others_hold (others_hold e₀) in
    let l : length f ≡ length (form (menu_in f)) = eqb-true (length f) (length (form (menu_in f))) (first_holds (others_hold e₂)) in (
      writes-back application (menu_in f) (ltb-true application 32 (first_holds e₀)) (first_holds (others_hold (others_hold e₂))),
      in_form_lem f b (eqb-true (get_or f 0 0) NI (first_holds e₂)) l,
    )

-- a menu that a record says can be sent
pub said_fits : (application : ℕ) (r : List ℕ) (m : Menu) → Says application r m → fits m ≡ true
said_fits application r m s = sym (ap fits s.meant) ∙ plain_fits s.content s.says.sendable

-- and is one that writing takes, and its form stands for it
pub says_writable :
    (application : ℕ) (r : List ℕ) (m : Menu) → Says application r m → Every (write_rules application (form m)) × (menu_in (form m) ≡ m)
says_writable application r m s =
    let f = said_fits application r m s in (more (lt-ltb application 32 s.says.within) (form-taken m f), form-back m f)

-- so is every accepted menu
pub accepted-writable :
    (application : ℕ) (r : List ℕ) (m : Menu) (c : ℕ) → Bytes r → read_menu application r ≡ accepted m c
    → Every (write_rules application (form m)) × (menu_in (form m) ≡ m)
accepted-writable application r m c b e = says_writable application r m (accepted-says application r m c b e).0
