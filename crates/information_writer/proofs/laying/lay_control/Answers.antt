-- `information_writer::laying::lay_control` meets its contract: each part from where the pen stands behind the one before. Assumes nothing.
use borrow.Author.Rules.{rules}
use mathlib.Core.Path.{◌∙◌, ap}
use mathlib.Core.List.{List, [], ◌∷◌, ◌++◌}
use Prim.Native.Nat.{ℕ}
use native.Mathlib.Omega.{arith}
use Rattle.fields.specs.Pens.{inked, begun}
use Rattle.information_forms.specs.Information.{opening_widths, fill_up}
use Rattle.information_writer.specs.Internal.{row_at, laid_from, front_bytes, front_widths}
use Rattle.information_writer.proofs.Recorded.{behind_fine, all_laid}
use Rattle.information_writer.proofs.laying.lay_control.Goals as goal

pub lay_row-b-requires : goal.lay_row-b-requires
lay_row-b-requires c = (search rules, search rules, behind_fine _ _ c.lay_row-a.ensures.0)

pub lay_networks-d-requires : goal.lay_networks-d-requires
lay_networks-d-requires c = (c.requires.2, c.requires.4, behind_fine _ _ c.lay-c.ensures.0)

pub lay_fill-requires : goal.lay_fill-requires
lay_fill-requires c = behind_fine _ _ c.lay_networks-d.ensures.0

pub returns : goal.returns
returns c =
    let f : List ℕ = c.args.form.now in
    let k = c.args.control in
    let y = c.byte_at in
    let a = c.lay_row-a in
    let o = c.lay_row-b in
    let t = c.lay-c in
    let n = c.lay_networks-d in
    let fl = c.lay_fill in
    all_laid (begun 4) a.result o.result t.result n.result (row_at front_widths 0 (front_bytes k y.result)) (row_at opening_widths 2 f) ((2, 0) ∷ [])
    (laid_from c.args.networks 0 c.args.name f) ((fill_up c.args.networks).fields 0) c.args.out.now _ _ _ _ _ (omega (arith, c.well_formed)) a.ensures.0 a.ensures.1
    o.ensures.0 o.ensures.1 t.ensures.0 t.ensures.1 n.ensures.0 n.ensures.1 fl.ensures
    ∙ ap (λ (x : ℕ). inked (begun 4) (row_at front_widths 0 (front_bytes k x) ++ (row_at opening_widths 2 f ++ ((2, 0) ∷ (laid_from c.args.networks 0 c.args.name f ++ (fill_up c.args.networks).fields 0)))) c.args.out.now) y.ensures.0
