-- A table's block has no strings: its size is that of its control data, and its bytes are images. Its reserved bit doesn't change how long
-- it is. Assumes nothing.
use mathlib.Core.Path.{◌≡◌, ◌∙◌, refl, ap}
use mathlib.Core.List.{List, ◌++◌, map, append-nil}
use Prim.Native.Nat.{ℕ, ◌+◌, ◌*◌}
use native.Mathlib.Nat.{add-zero}
use lib.ListN.{length}
use Rattle.octet.specs.Image.{image}
use Rattle.parity.specs.Parity.{letter}
use Rattle.blocks.specs.Block.{header}
use Rattle.fields.specs.Fields.{width, laid, parts}
use Rattle.kinds.specs.Kind.{size as kind_size, control as kind_control}
use Rattle.kinds.specs.Block.{head_bits, nibbles as kind_nibbles, block_with as kind_block_with}
use Rattle.forms.specs.Tables.{Table, tables, content, fields, control, size}
use Rattle.forms.specs.Block.{nibbles, checksum_of, block_with}
use Rattle.forms.proofs.Formats.{no_strings}

module _ (reserved : ℕ) (t : Table) where
  pub control-any : kind_control tables (content reserved t) ≡ control t
  unfolding fields width
  control-any = refl

  pub size-any : kind_size tables (content reserved t) ≡ size t
  size-any =
      ap (λ (l : List ℕ). 2 * kind_control tables (content reserved t) + length l) (no_strings (content reserved t))
      ∙ add-zero _ ∙ ap (λ (x : ℕ). 2 * x) control-any

  pub head-any : (application : ℕ) → head_bits tables application (content reserved t) ≡ laid (header application (size t)) 0
  head-any application = ap (λ (x : ℕ). laid (header application x) 0) size-any

  pub nibbles-any : (sum filling : ℕ) → nibbles sum reserved filling t ≡ parts 4 (size t) (laid (fields sum (control t) reserved t) filling)
  unfolding kind_nibbles fields width
  nibbles-any sum filling = refl

  pub raw-any :
      (application filling : ℕ)
      → (block_with application reserved filling t).raw ≡ map image (nibbles (checksum_of application reserved filling t) reserved filling t)
  unfolding kind_block_with
  raw-any application filling =
      ap (λ (l : List ℕ). map image (nibbles (checksum_of application reserved filling t) reserved filling t) ++ map letter l) (no_strings (content reserved t))
      ∙ append-nil _
