-- The reasons of a refusal and their numbers (SCOPE 2.1).
use Rattle.std.specs.Prelude.{ℕ}
use Rattle.answer.specs.declared.Reason.{Reason}
use Rattle.answer.specs.declared.Reason.TheVariants.{NoRoom, NotAPacket, PacketLength, PacketFlags, DataIdentifier, UnitCut, UnitId, UnitLength, UnitLine, Undecodable, Checksum, OtherBlock, Length, Parts, Value, Range, SheetLine, SheetSize, Edition, Parity, NoInformation, MendedLost, TooMany, NotADescriptor}

-- the number of a reason
abbrev pub number : Reason → ℕ
number NoRoom = 1
number NotAPacket = 2
number PacketLength = 3
number PacketFlags = 4
number DataIdentifier = 5
number UnitCut = 6
number UnitId = 7
number UnitLength = 8
number UnitLine = 9
number Undecodable = 10
number Checksum = 11
number OtherBlock = 12
number Length = 13
number Parts = 14
number Value = 15
number Range = 16
number SheetLine = 20
number SheetSize = 21
number Edition = 22
number Parity = 23
number NoInformation = 24
number MendedLost = 25
number TooMany = 26
number NotADescriptor = 27
