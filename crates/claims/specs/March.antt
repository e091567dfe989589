-- A packet that can't be read: what befell the loader of March sixteen pages long.
use Rattle.std.specs.Prelude.{◌≡◌, true, false, List, ℕ, ◌+◌, ◌*◌, ◌/◌, ◌%◌, get_or, drop}
use Rattle.octet.specs.Decoding.{nib}
use Rattle.packet.specs.declared.Setting.{Setting}
use Rattle.packet.specs.Address.{decodes}

-- its address can't be decoded (SCOPE 8.2), or it is packet 0 of our magazine and one of its six bytes can't (SCOPE 8.6)
pub data Unreadable (s : Setting) (q : List ℕ) : Type 0 where
  address : decodes 2 q ≡ false → Unreadable s q
  zero :
      decodes 2 q ≡ true → nib (get_or q 0 0) % 8 ≡ s.magazine % 8 → nib (get_or q 0 0) / 8 + 2 * nib (get_or q 1 0) ≡ 0
      → decodes 6 (drop 2 q) ≡ false
      → Unreadable s q
