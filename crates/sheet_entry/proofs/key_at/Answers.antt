-- `sheet_entry::key_at` meets its contract: a law for each line that may be at fault. Assumes nothing.
use native.Mathlib.Omega.{arith}
use Rattle.listing.specs.Lines.{block_name, network_name}
use Rattle.listing_reader.proofs.Walks.{number-place, kind_place}
use Rattle.sheet_entry.proofs.Heads.{key-unkind, key-unnetwork, key-unblock, key-all}
use Rattle.sheet_entry.proofs.key_at.Goals as goal

pub returns-then-a-eq0 : goal.returns-then-a-eq0
returns-then-a-eq0 c =
    key-unkind c.args.sheet.now c.args.at _ c.kind_at-kind.ensures c.if-a-eq0.true

pub overflow_add-at : goal.overflow_add-at
overflow_add-at c = let w = kind_place c.requires c.kind_at-kind.ensures in omega (arith, w.inside, w.short)

pub returns-then-b-eq0 : goal.returns-then-b-eq0
returns-then-b-eq0 c =
    key-unnetwork c.args.sheet.now c.args.at _ c.kind_at-kind.ensures c.if-a-eq0.false _ c.number_at-network.ensures c.if-b-eq0.true

pub overflow_add-at-2 : goal.overflow_add-at-2
overflow_add-at-2 c = let w = kind_place c.requires c.kind_at-kind.ensures in omega (arith, w.inside, w.short)

pub overflow_add-at-3 : goal.overflow_add-at-3
overflow_add-at-3 c =
    let w = number-place network_name 255 (kind_place c.requires c.kind_at-kind.ensures) c.number_at-network.ensures in
    omega (arith, w.inside, w.short)

pub overflow_add-result : goal.overflow_add-result
overflow_add-result c =
    let w = number-place network_name 255 (kind_place c.requires c.kind_at-kind.ensures) c.number_at-network.ensures in
    omega (arith, w.inside, w.short)

pub returns-then-c-eq0 : goal.returns-then-c-eq0
returns-then-c-eq0 c =
    key-unblock c.args.sheet.now c.args.at _ c.kind_at-kind.ensures c.if-a-eq0.false _ c.number_at-network.ensures
    c.if-b-eq0.false _ c.number_at-block.ensures c.if-c-eq0.true

pub overflow_add-result-2 : goal.overflow_add-result-2
overflow_add-result-2 c =
    let w = number-place network_name 255 (kind_place c.requires c.kind_at-kind.ensures) c.number_at-network.ensures in
    omega (arith, w.inside, w.short)

pub overflow_add-result-3 : goal.overflow_add-result-3
overflow_add-result-3 c =
    let w = number-place network_name 255 (kind_place c.requires c.kind_at-kind.ensures) c.number_at-network.ensures in
    let z = number-place block_name 65535 w c.number_at-block.ensures in
    omega (arith, z.inside, z.short)

pub returns : goal.returns
returns c =
    key-all c.args.sheet.now c.args.at _ c.kind_at-kind.ensures c.if-a-eq0.false _ c.number_at-network.ensures
    c.if-b-eq0.false _ c.number_at-block.ensures c.if-c-eq0.false
