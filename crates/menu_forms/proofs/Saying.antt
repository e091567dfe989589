-- The nibbles of a menu's control data are those of its fields, and the checksum's two are its first. Assumes nothing.
use mathlib.Core.Path.{◌≡◌, ◌∙◌, refl, ap}
use mathlib.Core.List.{◌++◌}
use Prim.Native.Nat.{ℕ, ◌*◌, ◌/◌}
use native.Mathlib.Omega.{arith}
use lib.ListN.{length, drop}
use Rattle.fields.specs.Fields.{width, laid, parts}
use Rattle.kinds.specs.Kind.{control as kind_control}
use Rattle.kinds.specs.Block.{nibbles as kind_nibbles}
use Rattle.menu_forms.specs.Menus.{Menu, Spare, zeros, navigation, content, fields, control}
use Rattle.menu_forms.specs.Block.{in_nibbles, nibbles}
use Rattle.menu_forms.proofs.Spelling.{length-spelled, spelled-first}
use Rattle.menu_forms.proofs.Nibbled.{menu-whole}

-- the spare bits don't change how long it is
pub control-any : (spare : Spare) (m : Menu) → kind_control navigation (content spare m) ≡ control m
unfolding fields
control-any spare m = omega (arith, menu-whole 0 0 spare m, menu-whole 0 0 zeros m)

pub nibbles_are : (sum : ℕ) (spare : Spare) (m : Menu) → nibbles sum spare m ≡ in_nibbles (fields sum (control m) spare m)
unfolding kind_nibbles in_nibbles fields
nibbles_are sum spare m =
    let c = content spare m in
    let wide : 2 * control m ≡ width (fields sum (control m) spare m) / 4 = omega (arith, menu-whole sum (control m) spare m) in
    ap (λ (x : ℕ). parts 4 (2 * x) (laid (fields sum x spare m) 0)) (control-any spare m)
    ∙ ap (λ (k : ℕ). parts 4 k (laid (fields sum (control m) spare m) 0)) wide

-- two protected bytes for eight bits
pub nibbles-long : (sum : ℕ) (spare : Spare) (m : Menu) → length (nibbles sum spare m) ≡ 2 * control m
nibbles-long sum spare m =
    ap length (nibbles_are sum spare m) ∙ length-spelled (fields sum (control m) spare m) ∙ (omega (arith, menu-whole sum (control m) spare m))

-- the checksum's two nibbles, and those of the fields behind it
pub sum_first : (sum : ℕ) (spare : Spare) (m : Menu) → nibbles sum spare m ≡ parts 4 2 sum ++ in_nibbles (drop 1 (fields 0 (control m) spare m))
unfolding fields
sum_first sum spare m = nibbles_are sum spare m ∙ spelled-first 8 2 sum (drop 1 (fields 0 (control m) spare m)) refl
