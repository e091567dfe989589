-- `packet::two::is_in_range` meets its contract: its tests in order. Assumes nothing.
use mathlib.Core.Path.{◌≡◌, ◌∙◌, sym, ap}
use Rattle.packet.specs.Setting.{in_range}
use Rattle.packet.specs.Two.{first_of, second_of, in_range_of_two}
use Rattle.packet.proofs.two.is_in_range.Goals as goal

pub returns-then-not-is_in_range : goal.returns-then-not-is_in_range
unfolding in_range_of_two
returns-then-not-is_in_range c =
    let first-told-c : (in_range (first_of c.args.s) ≡ c.is_in_range.result) = (ap in_range (sym c.first.ensures) ∙ sym c.is_in_range.ensures) in
    rw (first-told-c ∙ c.if-not-is_in_range.true)

pub returns-then-is_in_range : goal.returns-then-is_in_range
unfolding in_range_of_two
returns-then-is_in_range c =
    let first-told-c : (in_range (first_of c.args.s) ≡ c.is_in_range.result) = (ap in_range (sym c.first.ensures) ∙ sym c.is_in_range.ensures) in
    let second-told-c : (in_range (second_of c.args.s) ≡ c.is_in_range-2.result) = (ap in_range (sym c.second.ensures) ∙ sym c.is_in_range-2.ensures) in
    rw (first-told-c ∙ c.if-not-is_in_range.false, second-told-c ∙ c.if-is_in_range.true)

pub returns-else-is_in_range : goal.returns-else-is_in_range
unfolding in_range_of_two
returns-else-is_in_range c =
    let first-told-c : (in_range (first_of c.args.s) ≡ c.is_in_range.result) = (ap in_range (sym c.first.ensures) ∙ sym c.is_in_range.ensures) in
    let second-told-c : (in_range (second_of c.args.s) ≡ c.is_in_range-2.result) = (ap in_range (sym c.second.ensures) ∙ sym c.is_in_range-2.ensures) in
    rw (first-told-c ∙ c.if-not-is_in_range.false, second-told-c ∙ c.if-is_in_range.false) c.if-is_in_range.false
