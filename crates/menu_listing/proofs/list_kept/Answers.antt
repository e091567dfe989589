-- `menu_listing::list_kept` meets its contract: the levels, then the listing. Assumes nothing.
use borrow.Author.Rules.{rules}
use mathlib.Core.Path.{◌∙◌, sym}
use Rattle.menu_listing.specs.Kept.{kept_listing}
use Rattle.menu_listing.proofs.Rules.{kept-16, kept, some_level}
use Rattle.menu_listing.proofs.list_kept.Goals as goal

pub returns-then-not-are_levels : goal.returns-then-not-are_levels
returns-then-not-are_levels c =
    let s = c.args in
    let n = sym c.are_levels.ensures ∙ c.if-not-are_levels.true in
    let p = kept-16 s.levels (kept_listing s.number s.levels s.heads.now s.shelf.now) s.out.now n in
    record {
      answer = c.refuse.ensures ∙ p.0;
      output = p.1;
    }

pub print-requires : goal.print-requires
print-requires c =
    (search rules, some_level _ (sym c.are_levels.ensures ∙ c.if-not-are_levels.false))

pub returns : goal.returns
unfolding kept_listing
returns c =
    let s = c.args in
    let n = sym c.are_levels.ensures ∙ c.if-not-are_levels.false in
    let p = kept s.levels (kept_listing s.number s.levels s.heads.now s.shelf.now) s.out.now n in
    record {
      answer = c.print.ensures.answer ∙ p.0;
      output = c.print.ensures.output ∙ p.1;
    }
