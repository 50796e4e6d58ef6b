-- The proofs of `BitLaws` and `RefusalNumbers`.
use Rattle.base.specs.Laws.{BitLaws, RefusalNumbers}
use Rattle.base.proofs.Bits.{word_back, bits_back, word_small}
use Rattle.base.proofs.Refusals.{refusal_back, number_told}

pub bit_laws : BitLaws
bit_laws = record { word_back = word_back; bits_back = bits_back; word_small = word_small }

pub refusal_numbers : RefusalNumbers
refusal_numbers = record { number_back = refusal_back; number_not_0 = number_told }
