-- The search for a packet 0 of ours, place by place. Assumes nothing.
use mathlib.Core.Path.{◌≡◌}
use mathlib.Core.Bool.{true, false}
use mathlib.Core.List.{List}
use Prim.Native.Nat.{ℕ, ◌+◌, ◌<◌, ◌≤◌}
use native.Mathlib.Numerals.{add-one}
use native.Mathlib.Omega.{arith}
use lib.ListN.{length, drop, drop_of_length-le}
use lib.Seq.{drop-cons, take_all}
use borrow.Author.Tests.{ne_eqb}
use Rattle.std.specs.declared.option.Option.TheVariants.{None, Some}
use Rattle.packet.specs.declared.two.Streams.{Streams}
use Rattle.packet.specs.Packet.{packet_length}
use Rattle.pages.specs.Seen.{seen_as}
use Rattle.pages.specs.Two.{see_by_two, seen_by_two_as}
use Rattle.survey.specs.Either.{see_either}
use Rattle.survey.specs.Fitting.{fits, first_in}

pub fits-short : (s : Streams) (l : List ℕ) → length l < packet_length → false ≡ fits s l
unfolding fits see_either see_by_two seen_by_two_as seen_as
fits-short s l h =
    let n : length l ≡ packet_length → ⊥ = λ e. omega arith in
    let k : length l ≤ packet_length = omega arith in
    rw (take_all packet_length l k, ne_eqb _ _ n)

module _ (s : Streams) (l : List ℕ) (at : ℕ) where
  pub first-here : at < length l → fits s (drop at l) ≡ true → first_in s (drop at l) at ≡ Some at
  unfolding first_in
  first-here h e = let d = drop-cons l at 0 h in rw d (rw (rw d at e))

  pub first-later : at < length l → fits s (drop at l) ≡ false → first_in s (drop at l) at ≡ first_in s (drop (at + 1) l) (at + 1)
  unfolding first_in
  first-later h e = let d = drop-cons l at 0 h in rw (add-one, d) (rw (rw d at e))

  pub first-none : length l ≤ at → first_in s (drop at l) at ≡ None
  unfolding first_in
  first-none h = rw (drop_of_length-le l h)
