-- `survey::seen::note` meets its contract: what is passed has no place for the page. Assumes nothing.
use mathlib.Core.Path.{◌≡◌}
use mathlib.Core.List.{◌++◌}
use lib.ListN.{take, drop}
use Rattle.survey.specs.Pages.{noted}
use Rattle.survey.proofs.seen.note.Given as goal

abbrev pub invariant-loop-place : goal.invariant-loop-place
invariant-loop-place l = take l.place-index l.pages ++ noted l.code (drop l.place-index l.pages) ≡ noted l.code l.initial.pages
