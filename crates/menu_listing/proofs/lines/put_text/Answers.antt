-- `menu_listing::lines::put_text` meets its contract: the name, the codes, the line's end. Assumes nothing.
use borrow.Author.Rules.{rules}
use mathlib.Core.Path.{ap}
use mathlib.Core.List.{List, [], ◌∷◌, ◌++◌, map}
use Prim.Native.Nat.{ℕ}
use Rattle.text_lines.proofs.Putting.{put-at}
use Rattle.text_lines.proofs.Printed.{then, put_as}
use Rattle.menu_listing.specs.Lines.{shown, text_line}
use Rattle.menu_listing.proofs.Bytes.{codes_at_lem}
use Rattle.menu_listing.proofs.lines.put_text.Goals as goal

pub returns : goal.returns
unfolding text_line
returns c =
    let z = put-at {xs = 10 ∷ []} (search rules) c.put.ensures.0 in
    let y = c.put_codes-b.ensures.0 in
    let s = c.args in
    let x = put-at {xs = s.name.now} (search rules) c.put-a.ensures.0 in
    let e = codes_at_lem s.at _ _ s.form.now c.byte_at-escapes.ensures.0 c.byte_at-count.ensures.0 in
    (put_as (ap (λ (codes : List ℕ). s.name.now ++ map shown codes ++ (10 ∷ [])) e) (then (then x y) z), search rules)
