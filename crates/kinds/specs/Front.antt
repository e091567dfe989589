-- What every kind's control data opens with (tables 11, 15, 17 and 19; SCOPE 12.2, 12.3, 23.1).
use Rattle.std.specs.Prelude.{ℕ}
use Rattle.codecs.specs.Codec.{Codec, number, then, seen}

-- checksum, control_block_size, datatype_id, CA_mode, copyright, reserved_for_future_use
pub record Front : Type 0 where
  pub checksum : ℕ
  pub control : ℕ
  pub kind : ℕ
  pub access : ℕ
  pub copyright : ℕ
  pub reserved : ℕ

-- its values in the order in which they stand
abbrev pub Opened : Type 0
Opened = ℕ × (ℕ × (ℕ × (ℕ × (ℕ × ℕ))))

abbrev pub opened : Front → Opened
opened f = (f.checksum, (f.control, (f.kind, (f.access, (f.copyright, f.reserved)))))

abbrev pub named : Opened → Front
named (checksum, (control, (kind, (access, (copyright, reserved))))) =
    record { checksum = checksum; control = control; kind = kind; access = access; copyright = copyright; reserved = reserved }

abbrev pub front : Codec Front
front =
    seen opened named
    (then (number 8) (λ checksum. then (number 10) (λ control. then (number 6) (λ kind. then (number 2) (λ access.
    then (number 1) (λ copyright. number 1))))))
