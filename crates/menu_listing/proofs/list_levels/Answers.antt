-- `menu_listing::list_levels` meets its contract: its rules, then the listing. Assumes nothing.
use borrow.Author.Rules.{rules}
use mathlib.Core.List.{List}
use mathlib.Core.Path.{◌∙◌, refl, sym}
use Prim.Native.Nat.{ℕ}
use Rattle.answer.proofs.Lent.{lent-refused}
use Rattle.menu_listing.specs.Listing.{listing, levels_rules}
use Rattle.menu_listing.proofs.Rules.{listed-16, levels-16, listed-13, listed, some_level}
use Rattle.menu_listing.proofs.list_levels.Goals as goal

pub returns-then-application-ge32 : goal.returns-then-application-ge32
returns-then-application-ge32 c =
    let s = c.args in
    let l : List ℕ = s.records.now in
    let p =
    lent-refused (levels_rules s.application s.levels l) (listing s.application s.number s.levels l) s.out.now 0 refl
    (listed-16 s.application s.levels l c.if-application-ge32.true) in
    record {
      answer = c.refuse.ensures ∙ p.0;
      output = p.1;
    }

pub returns-then-not-are_levels : goal.returns-then-not-are_levels
returns-then-not-are_levels c =
    let n = sym c.are_levels.ensures ∙ c.if-not-are_levels.true in
    let s = c.args in
    let l : List ℕ = s.records.now in
    let p =
    lent-refused (levels_rules s.application s.levels l) (listing s.application s.number s.levels l) s.out.now 0 refl
    (levels-16 s.application s.levels l c.if-application-ge32.false n) in
    record {
      answer = c.refuse-then-not-are_levels.ensures ∙ p.0;
      output = p.1;
    }

pub returns-then-not-is_whole : goal.returns-then-not-is_whole
returns-then-not-is_whole c =
    let n = sym c.are_levels.ensures ∙ c.if-not-are_levels.false in
    let w = sym c.is_whole.ensures ∙ c.if-not-is_whole.true in
    let s = c.args in
    let l : List ℕ = s.records.now in
    let p =
    lent-refused (levels_rules s.application s.levels l) (listing s.application s.number s.levels l) s.out.now 0 refl
    (listed-13 s.application s.levels l c.if-application-ge32.false n w) in
    record {
      answer = c.refuse-then-not-is_whole.ensures ∙ p.0;
      output = p.1;
    }

pub print-requires : goal.print-requires
print-requires c =
    (search rules, some_level _ (sym c.are_levels.ensures ∙ c.if-not-are_levels.false))

pub returns : goal.returns
unfolding listing
returns c =
    let s = c.args in
    let l : List ℕ = s.records.now in
    let n = sym c.are_levels.ensures ∙ c.if-not-are_levels.false in
    let w = sym c.is_whole.ensures ∙ c.if-not-is_whole.false in
    let p = listed s.application s.levels l c.if-application-ge32.false n w (listing s.application s.number s.levels l) s.out.now in
    record {
      answer = c.print.ensures.answer ∙ p.0;
      output = c.print.ensures.output ∙ p.1;
    }
