-- The calls of `dvb_descriptor` as their contracts have them (claims/specs/Calls says how).
use Rattle.std.specs.Prelude.{List, ℕ}
use Rattle.answer.specs.Answer.{Answer}
use Rattle.dvb_descriptor.proofs.write_descriptor.Reads as dvb_descriptor-write_descriptor
use Rattle.dvb_descriptor.proofs.read_descriptor.Reads as dvb_descriptor-read_descriptor

-- table form and lent output; the answer, and the output afterwards
pub data WritesDescriptor : List ℕ → List ℕ → Answer → List ℕ → Type 0 where
  write-descriptor :
      (κs : _) (a : _) (x : _) (t : _) → dvb_descriptor-write_descriptor.Post κs a x t
      → WritesDescriptor a.0.now a.1.0.now x t.1.0.now

-- descriptor and lent output; the answer, and the output afterwards
pub data ReadsDescriptor : List ℕ → List ℕ → Answer → List ℕ → Type 0 where
  read-descriptor :
      (κs : _) (a : _) (x : _) (t : _) → dvb_descriptor-read_descriptor.Post κs a x t
      → ReadsDescriptor a.0.now a.1.0.now x t.1.0.now
