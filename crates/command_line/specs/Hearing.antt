-- What is heard of a word, and what a reader is set to by what was said.
use Rattle.std.specs.Prelude.{List, ℕ, ◌%◌, eqb}
use Rattle.laws.specs.Pick.{pick}
use Rattle.packet.specs.declared.two.Streams.{Streams}
use Rattle.words.specs.declared.Said.{Said}
use Rattle.words.specs.Options.{no_value}
use Rattle.words.specs.Words.{heard, place_of, value_at, second_at}
use Rattle.told.specs.Fronts.{front_of}
use Rattle.command_line.specs.declared.Heard.{Heard as HeardWord}

-- the word is the first n bytes of the buffer; its place goes by what was said before it
abbrev pub heard_word : List ℕ → List ℕ → Said → ℕ → List ℕ → HeardWord
heard_word o t s n w =
    record { said = heard o t s (front_of n w) s.stage; place = place_of t s (front_of n w) s.stage; long = n }

-- the value of option k as a byte
abbrev pub byte_of : List ℕ → Said → ℕ → ℕ
byte_of o s k = value_at o s k % 256

-- the number of the streams' option
abbrev pub stream : ℕ
stream = 2

-- the second stream: what was said behind a comma, or the first where nothing was (SCOPE 27.8)
abbrev pub second_by : List ℕ → Said → ℕ
second_by o s = pick (eqb (second_at s stream) no_value) (byte_of o s stream) (second_at s stream % 256)

-- magazine, page, stream and application are a program's first options, in this order (SCOPE 13.7)
abbrev pub setting_by : List ℕ → Said → Streams
setting_by o s =
    record { magazine = byte_of o s 0; page = byte_of o s 1; first = byte_of o s stream; second = second_by o s; application = byte_of o s 3 }
