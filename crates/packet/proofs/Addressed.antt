-- An address by its two bytes, and whether it is another magazine's. Assumes nothing.
use mathlib.Core.Path.{◌≡◌}
use mathlib.Core.Bool.{false, not}
use mathlib.Core.List.{List}
use Prim.Native.Nat.{ℕ, ◌+◌, ◌*◌, ◌%◌, ◌≤◌, ◌<◌}
use lib.Dec.{eqb}
use lib.ListN.{length, get_or}
use lib.Seq.{get_or-drop}
use borrow.Author.Tests.{le-leb, lt-leb, lt-ltb}
use Rattle.laws.specs.Pick.{pick}
use Rattle.octet.specs.Decoding.{nib}
use Rattle.packet.specs.declared.Setting.{Setting}
use Rattle.packet.specs.Address.{decodes, address_of, elsewhere}

pub address-short : (p : List ℕ) → length p < 2 → 256 ≡ address_of p
unfolding address_of
address-short p h = rw (lt-leb _ _ h)

module _ (p : List ℕ) (long : 2 ≤ length p) where
  pub address-long : address_of p ≡ pick (decodes 2 p) (nib (get_or p 0 0) + 16 * nib (get_or p 1 0)) 256
  unfolding address_of
  address-long = rw (le-leb _ _ long)

  module _ {one : ℕ} (eo : one ≡ nib (get_or p 0 0)) where
    pub address-first : one ≡ 16 → 256 ≡ address_of p
    unfolding decodes
    address-first h = rw (address-long, ← eo, h)

    module _ {two : ℕ} (et : two ≡ nib (get_or p 1 0)) (h : one < 16) where
      pub address-second : two ≡ 16 → 256 ≡ address_of p
      unfolding decodes
      address-second k = rw (address-long, get_or-drop 1 p 0 0, ← eo, ← et, lt-ltb _ _ h, k)

      pub address-both : two < 16 → one + 16 * two ≡ address_of p
      unfolding decodes
      address-both k = rw (address-long, get_or-drop 1 p 0 0, ← eo, ← et, lt-ltb _ _ h, lt-ltb _ _ k)

module _ (s : Setting) (x : ℕ) where
  pub no_address : 255 < x → false ≡ elsewhere s x
  unfolding elsewhere
  no_address h = rw (lt-leb _ _ h)

  pub an-address : x ≤ 255 → not (eqb (x % 8) (s.magazine % 8)) ≡ elsewhere s x
  unfolding elsewhere
  an-address h = rw (le-leb _ _ h)
