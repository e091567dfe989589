-- Whether a word's bytes are letters, byte by byte. Assumes nothing.
use mathlib.Core.Path.{◌≡◌}
use mathlib.Core.Bool.{true, false}
use Prim.Native.Nat.{ℕ, ◌/◌, ◌%◌}
use Rattle.laws.proofs.Tests.{both_right}
use Rattle.text_lines.specs.Lines.{letter, letters, word_bytes}

module _ (w : ℕ) where
  pub letters-1 : letter (w / 256 / 256 % 256) ≡ false → letters (word_bytes w) ≡ false
  unfolding letters word_bytes
  letters-1 a = rw a

  pub letters-2 : letter (w / 256 / 256 % 256) ≡ true → letter (w / 256 % 256) ≡ false → letters (word_bytes w) ≡ false
  unfolding letters word_bytes
  letters-2 a b = rw (a, b)

  pub letters-3 :
      letter (w / 256 / 256 % 256) ≡ true → letter (w / 256 % 256) ≡ true → letters (word_bytes w) ≡ letter (w % 256)
  unfolding letters word_bytes
  letters-3 a b = rw (a, b) (both_right (letter (w % 256)))
