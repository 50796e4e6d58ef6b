-- `word_of` meets its contract.
use Rattle.std.proofs.Common.{◌+◌, ◌*◌, ◌^◌, ◌<◌, ap, arith, rules, ◌∙◌}
use Rattle.std.specs.Int.{from_bool}
use Rattle.marks.proofs.MarkWords.{passed_none, passed_next, passed_fits}
use Rattle.marks.proofs.words.word_of.Goals as goal
use Rattle.marks.proofs.words.word_of.Goals.{In-Some}

pub loop-mark-init : goal.loop-mark-init
loop-mark-init c =
    record {
      can = tt;
      finite = tt;
      passed = passed_none _ _
          (ap (λ i. i.iter.rest.now) c.into_iter-mark-iterator.ensures.into_iter_gives ∙ ap (λ i. i.rest.now) c.rev-mark-items.ensures.source
          ∙ c.iter.ensures.rest);
    }

-- the word with one mark more fits
fits : (c : In-Some) → c.loop-mark.word * 2 + from_bool c.in-Some.mark.now < 2 ^ 64
fits c = passed_fits _ _ _ _ _ (search rules) c.loop-mark.invariant.passed c.in-Some.ensures.steps

pub overflow_mul-word : goal.overflow_mul-word
overflow_mul-word c = omega (arith, fits c)

pub overflow_add-word : goal.overflow_add-word
overflow_add-word c = rw c.from.ensures (record { fits = fits (goal.at.overflow_add-word c).In-Some })

pub loop-mark-preserved : goal.loop-mark-preserved
loop-mark-preserved c =
    record {
      can = tt;
      finite = tt;
      passed = rw c.from.ensures (passed_next _ _ _ _ _ (search rules) c.loop-mark.invariant.passed c.in-Some.ensures.steps);
    }
