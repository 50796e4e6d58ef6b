-- `with_mark` meets its contract.
use Prim.Native.Nat.{◌^◌, ◌<◌}
use mathlib.Core.Path.{sym, ap, ◌∙◌}
use lib.Bits.{bit_or, or_lt}
use lib.Pow.{pow-lt}
use borrow.Author.Rules.{rules}
use Rattle.base.specs.Bits.{word_of}
use Rattle.base.proofs.Bits.{or_bit, word_back}
use Rattle.marks.proofs.WordsCode.{one_shl}
use Rattle.marks.proofs.words.with_mark.Goals as goal

pub returns : goal.returns
returns c =
    let a = c.args in
    let marks : a.marks < 2 ^ 64 = search rules in
    let small : bit_or a.marks (2 ^ a.j) < 2 ^ 64 = or_lt 64 a.marks (2 ^ a.j) marks (pow-lt c.requires) in
    rw (one_shl a.j c.requires) (sym (word_back 64 (bit_or a.marks (2 ^ a.j)) small) ∙ ap word_of (or_bit 64 a.marks a.j))
