-- What is proved of the bits of a word, `BitLaws`, and of the numbers of refusals, `RefusalNumbers`. `proofs/Theorems.antt` has the
-- proofs.
use Rattle.std.specs.Prelude.{ℕ, ◌^◌, ◌<◌, ◌≡◌, ◌≢◌, Bool, List, length}
use Rattle.base.specs.Bits.{bits, word_of}
use Rattle.base.specs.declared.Refusal.{Refusal}
use Rattle.base.specs.Refusals.{refusal_number, refusal_with}

pub record BitLaws : Type 0 where
  -- words below 2^k and lists of k bits are the same, one to one
  pub word_back : (k w : ℕ) → w < 2 ^ k → word_of (bits k w) ≡ w
  pub bits_back : (list : List Bool) → bits (length list) (word_of list) ≡ list
  pub word_small : (list : List Bool) → word_of list < 2 ^ length list

pub record RefusalNumbers : Type 0 where
  -- no two refusals have one number, and none has 0, which says that nothing is refused
  pub number_back : (r : Refusal) → refusal_with (refusal_number r) ≡ r
  pub number_not_0 : (r : Refusal) → refusal_number r ≢ 0
