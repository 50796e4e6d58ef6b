-- For each part of demand 3 a program that breaks it, or that none does: `parts_broken`, `parts_broken_without_cache`. Programs that demand 3
-- shuts out, each by the part that it breaks: `shut_out`, `shut_out_without_cache`.
use Rattle.worked.specs.WrongPrograms.{refuses_read, exchanges_blocks, writes_nothing, writes_waiting, writes_early, records_early, never_advances, marks_later, ends_early, ends_late, made_up_count, grows_to_twice, keeps_copies, grows_always, ShutOut, ShutOutWithoutCache}
use Rattle.worked.specs.BrokenParts.{PartsBroken, PartsBrokenWithoutCache}
use Rattle.promise.proofs.Parts.{parts, parts_without_cache}
use Rattle.worked.proofs.EveryProgram.{still_runs, finished_left, still_runs_direct}
use Rattle.worked.proofs.WrongReads.{refuses_read_law, exchanges_blocks_law, writes_nothing_law, writes_waiting_law, marks_later_law, writes_early_law, records_early_law}
use Rattle.worked.proofs.WrongGrowths.{made_up_count_law, grows_to_twice_law, keeps_copies_law, never_advances_law, never_finishes, ends_early_law, ends_late_law, grows_always_law}

pub parts_broken : PartsBroken
parts_broken =
    record {
      is_accepted_law = refuses_read_law.0;
      bytes_read = writes_nothing_law.0;
      bytes_read_waiting = writes_waiting_law.0;
      bytes_read_early = writes_early_law;
      bytes_read_recorded = records_early_law;
      bytes_read_marked = marks_later_law.0;
      bytes_stand = exchanges_blocks_law.0;
      calls_left_law = made_up_count_law.0;
      calls_left_beyond = grows_to_twice_law.0;
      calls_left_restart = keeps_copies_law.0;
      still_runs = still_runs;
      none_told = ends_early_law.0;
      finished = grows_always_law.0;
      finished_left = finished_left;
      last_told = ends_late_law.0;
      advances = never_advances_law;
    }

pub parts_broken_without_cache : PartsBrokenWithoutCache
parts_broken_without_cache =
    record {
      is_accepted_law = refuses_read_law.1;
      bytes_read = writes_nothing_law.1;
      bytes_read_waiting = writes_waiting_law.1;
      bytes_read_marked = marks_later_law.1;
      bytes_stand = exchanges_blocks_law.1;
      calls_left_law = made_up_count_law.1;
      calls_left_beyond = grows_to_twice_law.1;
      calls_left_restart = keeps_copies_law.1;
      still_runs = still_runs_direct;
      none_told = ends_early_law.1;
      finished = grows_always_law.1;
      finished_never = never_finishes;
      last_told = ends_late_law.1;
    }

pub shut_out : ShutOut
shut_out =
    record {
      writes_nothing_law = λ kept. writes_nothing_law.0 (parts writes_nothing kept).bytes_read;
      writes_waiting_law = λ kept. writes_waiting_law.0 (parts writes_waiting kept).bytes_read;
      writes_early_law = λ kept. writes_early_law (parts writes_early kept).bytes_read;
      records_early_law = λ kept. records_early_law (parts records_early kept).bytes_read;
      never_advances_law = λ kept. never_advances_law (parts never_advances kept).advances;
      marks_later_law = λ kept. marks_later_law.0 (parts marks_later kept).bytes_read;
      made_up_count_law = λ kept. made_up_count_law.0 (parts made_up_count kept).calls_left_law;
      grows_to_twice_law = λ kept. grows_to_twice_law.0 (parts grows_to_twice kept).calls_left_law;
      keeps_copies_law = λ kept. keeps_copies_law.0 (parts keeps_copies kept).calls_left_law;
      refuses_read_law = λ kept. refuses_read_law.0 (parts refuses_read kept).is_accepted_law;
      exchanges_blocks_law = λ kept. exchanges_blocks_law.0 (parts exchanges_blocks kept).bytes_stand;
      grows_always_law = λ kept. grows_always_law.0 (parts grows_always kept).finished;
      ends_early_law = λ kept. ends_early_law.0 (parts ends_early kept).none_told;
      ends_late_law = λ kept. ends_late_law.0 (parts ends_late kept).last_told;
    }

pub shut_out_without_cache : ShutOutWithoutCache
shut_out_without_cache =
    record {
      writes_nothing_law = λ kept. writes_nothing_law.1 (parts_without_cache writes_nothing kept).bytes_read;
      writes_waiting_law = λ kept. writes_waiting_law.1 (parts_without_cache writes_waiting kept).bytes_read;
      never_advances_law = λ kept. never_finishes (parts_without_cache never_advances kept).finished;
      marks_later_law = λ kept. marks_later_law.1 (parts_without_cache marks_later kept).bytes_read;
      made_up_count_law = λ kept. made_up_count_law.1 (parts_without_cache made_up_count kept).calls_left_law;
      grows_to_twice_law = λ kept. grows_to_twice_law.1 (parts_without_cache grows_to_twice kept).calls_left_law;
      keeps_copies_law = λ kept. keeps_copies_law.1 (parts_without_cache keeps_copies kept).calls_left_law;
      refuses_read_law = λ kept. refuses_read_law.1 (parts_without_cache refuses_read kept).is_accepted_law;
      exchanges_blocks_law = λ kept. exchanges_blocks_law.1 (parts_without_cache exchanges_blocks kept).bytes_stand;
      grows_always_law = λ kept. grows_always_law.1 (parts_without_cache grows_always kept).finished;
      ends_early_law = λ kept. ends_early_law.1 (parts_without_cache ends_early kept).none_told;
      ends_late_law = λ kept. ends_late_law.1 (parts_without_cache ends_late kept).last_told;
    }
