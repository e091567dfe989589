-- Where a block's control bytes end: at twice the control size that the block says, where it holds so many. Assumes nothing.
use mathlib.Core.Path.{◌≡◌, ◌∙◌, refl, sym, ap}
use mathlib.Core.Bool.{Bool, true, false}
use mathlib.Core.List.{List, map}
use Prim.Native.Nat.{ℕ, ◌*◌, ◌≤◌}
use native.Mathlib.Omega.{arith}
use lib.ListN.{length, take, drop, drop_of_length-le}
use lib.Seq.{take_all}
use Rattle.laws.specs.Bytes.{Bytes}
use Rattle.laws.proofs.Byted.{bytes_drop}
use Rattle.laws.proofs.Maps.{map-take}
use Rattle.octet.specs.Decoding.{nib}
use Rattle.kinds.specs.Reading.{front_in, control_length, control_part, string_part}
use Rattle.kinds.proofs.Fronts.{control-front}

-- they are the first n
pub record Parted (spoken : Bool) (raw : List ℕ) (n : ℕ) : Type 0 where
  pub first : control_part spoken raw ≡ take n raw
  pub rest : string_part spoken raw ≡ drop n raw

parted-spoken :
    (raw : List ℕ) (c : ℕ) → (front_in (map nib (take 8 raw))).control ≡ c → 4 ≤ c → 2 * c ≤ length raw → Parted true raw (2 * c)
parted-spoken raw c e h l =
    let ends : control_length raw ≡ 2 * c = rw e (omega arith) in
    record { first = ap (λ (n : ℕ). take n raw) ends; rest = ap (λ (n : ℕ). drop n raw) ends }

parted-silent : (raw : List ℕ) (n : ℕ) → length raw ≡ n → Parted false raw n
parted-silent raw n e =
    let l : length raw ≤ n = omega arith in
    record { first = sym (take_all n raw l); rest = sym (drop_of_length-le raw l) }

-- with strings by the control size; without, all are
pub parted :
    (spoken : Bool) (raw : List ℕ) (c : ℕ) → (spoken ≡ true → (front_in (map nib (take 8 raw))).control ≡ c) → 4 ≤ c → 2 * c ≤ length raw
    → (spoken ≡ false → length raw ≡ 2 * c)
    → Parted spoken raw (2 * c)
parted true raw c e h l a = parted-spoken raw c (e refl) h l
parted false raw c e h l a = parted-silent raw (2 * c) (a refl)

-- the control size that a block's first eight bytes say is that of more
pub control_bytes : (raw : List ℕ) (n : ℕ) → 8 ≤ n → (front_in (map nib (take 8 raw))).control ≡ (front_in (map nib (take n raw))).control
control_bytes raw n h =
    ap (λ (l : List ℕ). (front_in l).control) (map-take nib 8 raw) ∙ control-front (map nib raw) n h
    ∙ ap (λ (l : List ℕ). (front_in l).control) (sym (map-take nib n raw))

pub bytes_strings : (spoken : Bool) (raw : List ℕ) → (spoken ≡ true → Bytes raw) → Bytes (string_part spoken raw)
bytes_strings true raw b i = bytes_drop (control_length raw) raw (b refl) i
bytes_strings false raw b i = omega arith
