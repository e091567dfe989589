-- `aerials::better` meets its contract: its four returns. Assumes nothing.
use mathlib.Core.Path.{◌∙◌}
use native.Mathlib.Nat.{zero-add}
use Rattle.laws.proofs.Lists.{part-rest}
use Rattle.aerials.proofs.Counting.{no-first, no_second, the_second, the-first}
use borrow.Author.Rules.{rules}
use Rattle.aerials.proofs.better.Goals as goal

pub returns-then-first-ne-PACKET : goal.returns-then-first-ne-PACKET
returns-then-first-ne-PACKET c =
    let a = c.args in
    let l = no-first a.first.now a.second.now a.first.ref_ptr a.second.ref_ptr (search rules) in
    record {
      result_value = l.0;
      ref_ptr_value = rw zero-add l.1;
    }

pub returns-then-long-ne-PACKET : goal.returns-then-long-ne-PACKET
returns-then-long-ne-PACKET c =
    let a = c.args in
    let it = no_second a.first.now a.second.now a.first.ref_ptr a.second.ref_ptr (search rules) (search rules) in
    record { result_value = it.0; ref_ptr_value = it.1 }

pub returns-then-broken : goal.returns-then-broken
returns-then-broken c =
    let a = c.args in
    let l = the_second a.first.now a.second.now a.first.ref_ptr a.second.ref_ptr (search rules) (search rules) (search rules) in
    record {
      result_value = part-rest 2 a.second.now ∙ l.0;
      ref_ptr_value = l.1;
    }

pub returns : goal.returns
returns c =
    let a = c.args in
    let l = the-first a.first.now a.second.now a.first.ref_ptr a.second.ref_ptr (search rules) (search rules) (search rules) in
    record {
      result_value = part-rest 2 a.first.now ∙ l.0;
      ref_ptr_value = l.1;
    }
