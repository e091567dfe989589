-- Blocks to records and back: the records of any blocks that have the sizes they say are a list of whole records, and those
-- blocks are what it holds. Assumes nothing.
use mathlib.Core.Path.{◌≡◌, ◌∙◌, refl, sym, ap, ap₂}
use mathlib.Core.Bool.{true}
use mathlib.Core.List.{List, [], ◌∷◌, ◌++◌}
use Prim.Native.Nat.{ℕ, suc}
use native.Mathlib.Omega.{arith}
use lib.ListN.{length, drop, length-append}
use lib.Seq.{take_at, drop_at}
use borrow.Author.Tests.{le-leb}
use Rattle.blocks.specs.Block.{Block, head_length, size_of, record_of, records_of, head_of, record_length, begins, block_of, whole, blocks_within, blocks}
use Rattle.laws.specs.Each.{Each, nil, and}
use Rattle.blocks.specs.Sizes.{Sized}
use Rattle.blocks.proofs.Walking.{whole_end_lem, whole-step, blocks_step}

module _ (b : Block) (rest : List ℕ) (h : size_of b.head ≡ length b.raw) where
  abbrev first : List ℕ
  first = record_of b ++ rest

  first_head : head_of (first) ≡ b.head
  first_head = omega arith

  first-size : length b.raw ≡ size_of (head_of first)
  first-size = sym h ∙ ap size_of (sym first_head)

  first-begins : begins (first) ≡ true
  first-begins =
      let e : head_of (first) ≡ b.head = first_head in
      rw (le-leb head_length (length (first)) (omega arith))
      (le-leb (record_length (first)) (length (first)) (omega (arith, length-append b.raw rest)))

  first_block : block_of (first) ≡ b
  first_block =
      ap₂
      (λ (head : ℕ) (raw : List ℕ). record { head = head; part = b.part; second = b.second; raw = raw })
      first_head
      (take_at b.raw rest (size_of (head_of first)) first-size)

  first_rest : drop (record_length (first)) (first) ≡ rest
  first_rest =
      let e : record_length first ≡ suc (suc (suc (suc (size_of (head_of first))))) = omega arith in
      rw e (drop_at b.raw rest (size_of (head_of first)) first-size)

pub whole_records : {bs : List Block} → Each Sized bs → whole (records_of bs) ≡ true
unfolding records_of
whole_records nil = whole_end_lem [] refl
whole_records (and {a = b} {l = bs} h s) =
    whole-step (record_of b ++ records_of bs) (first-begins b (records_of bs) h)
    ∙ rw (first_rest b (records_of bs) h) (whole_records s)

pub blocks_records : {bs : List Block} → Each Sized bs → blocks (records_of bs) ≡ bs
unfolding records_of blocks_within
blocks_records nil = refl
blocks_records (and {a = b} {l = bs} h s) =
    blocks_step (record_of b ++ records_of bs) (first-begins b (records_of bs) h)
    ∙ ap₂ {C = List Block} (λ c cs. c ∷ cs) (first_block b (records_of bs) h)
    (ap blocks (first_rest b (records_of bs) h) ∙ blocks_records s)
