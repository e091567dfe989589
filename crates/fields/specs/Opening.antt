-- What control data opens with.
use Rattle.std.specs.Prelude.{ℕ, ◌%◌}
use Rattle.fields.specs.Fields.{field}
use Rattle.fields.specs.declared.Opening.{Opening}

-- these values, each as far as its type goes
abbrev pub narrowed : ℕ → ℕ → ℕ → ℕ → ℕ → ℕ → ℕ → ℕ → Opening
narrowed checksum control kind access copyright block network count =
    record {
      checksum = checksum % 256;
      control = control % 65536;
      kind = kind % 256;
      access = access % 256;
      copyright = copyright % 256;
      block = block % 65536;
      network = network % 256;
      count = count % 256;
    }

-- the fields of control data n up to its loops, each at its place in tables 15 and 17; bit 27 is reserved
abbrev pub opening_in : ℕ → Opening
opening_in n =
    record {
      checksum = field 0 8 n;
      control = field 8 10 n;
      kind = field 18 6 n;
      access = field 24 2 n;
      copyright = field 26 1 n;
      block = field 28 16 n;
      network = field 44 8 n;
      count = field 52 6 n;
    }
