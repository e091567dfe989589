-- `menu_reader::spelling::put_entry` meets its contract: one case for each loop. Assumes nothing.
use mathlib.Core.Path.{sym, subst}
use mathlib.Core.List.{List, map}
use Prim.Native.Nat.{ℕ}
use lib.ListN.{drop}
use Rattle.octet.specs.Decoding.{nib}
use Rattle.menu_reader.specs.declared.Loop.{Loop}
use Rattle.menu_reader.specs.Internal.{entry_nibbles, entry_form, Went}
use Rattle.menu_reader.proofs.spelling.put_entry.Goals as goal

pub returns-in-Descriptors : goal.returns-in-Descriptors
returns-in-Descriptors c =
    let a = c.args in
    let l : List ℕ = drop a.s.at (map nib a.control.now) in
    let p = c.put_descriptor in (
      subst (λ (x : Loop). Went a.s p.result (entry_nibbles x l) 0 (entry_form x l) a.out.now p.new.out)
          (sym c.in-Descriptors.is) p.ensures.0,
      p.ensures.1,
    )

pub returns-in-Escapes : goal.returns-in-Escapes
returns-in-Escapes c =
    let a = c.args in
    let l : List ℕ = drop a.s.at (map nib a.control.now) in
    let p = c.put_escape in (
      subst (λ (x : Loop). Went a.s p.result (entry_nibbles x l) 0 (entry_form x l) a.out.now p.new.out)
          (sym c.in-Escapes.is) p.ensures.0,
      p.ensures.1,
    )

pub returns-in-Attributes : goal.returns-in-Attributes
returns-in-Attributes c =
    let a = c.args in
    let l : List ℕ = drop a.s.at (map nib a.control.now) in
    let p = c.put_attribute in (
      subst (λ (x : Loop). Went a.s p.result (entry_nibbles x l) 0 (entry_form x l) a.out.now p.new.out)
          (sym c.in-Attributes.is) p.ensures.0,
      p.ensures.1,
    )
