-- The definitions that a list of events is computed with.
use Rattle.base.specs.Below.{count, every, sum, table, joined, first, lower, lowest}
use Rattle.base.specs.Refusals.{refusal, refusal_number, refusals, refusal_with}
use Rattle.layout.specs.Growth.{minus_mod, moves, part_of, new_disk, disk_after, moves_from, old_block_spot, added_disk, added_spot, spot_after}
use Rattle.layout.specs.History.{history, disk_count, earlier, old_count, added_count, rising, spot_of}
use Rattle.layout.specs.Live.{at_new_spot, live_spot}
use Rattle.layout.specs.Tally.{open_blocks, recorded_by, moved_blocks, live_spot_of, waiting, calls_left_of, moves_now, rank_now, source_of, target_of, next_block, window_full, last_window}
use Rattle.layout.specs.Windows.{windows, window_of_row, mark_of_spot, spot_of_mark, row_exists, old_spot, moving, window_of, moving_in, mark_of, block_of_mark, marked_blocks, part_moved, next_to_copy, are_copied, uncopied, calls_left}
use Rattle.base.specs.Bits.{bits, word_of}
use Rattle.marks.specs.Marks.{no_marks, within, moving_marks, at_rest, in_growth, zeros_after}
use Rattle.medium.specs.Medium.{place, bytes_needed, observe, cut_store, also_pending}
use Rattle.record.specs.Decimal.{leading, decimal, blank, is_digit, column_step, column_fold, read_column}
use Rattle.record.specs.Sector.{is_blank, field, columns, mark_bytes, ending, sector, read_field, numbers_found, marks_found}
use Rattle.volume.specs.Answers.{number, accepted, reported}
use Rattle.volume.specs.Calls.{refused, doing, reporting, telling, too_short, format_table, format_effect, format_outcome, doubling_rows, grow_table_of, grow_effect, grow_outcome_of, write_table, write_effect, write_outcome, read_table, read_effect, read_outcome, copy_table, copy_store, copy_effect, copy_outcome, checkpoint_table, checkpoint_store, checkpoint_effect, checkpoint_outcome, advance_table, checkpoint_told, advancing, advance_effect, advance_outcome, flushed_table, flushed_effect, flushed_outcome}
use Rattle.volume.specs.Records.{numbers_of, record_of, state_of}
use Rattle.volume.specs.Sound.{size_holds, rows_hold, disks_hold, limits_hold, moving_of, stage_holds, types_hold, sound}
use Rattle.volume.specs.States.{geometry, history_of, disks, mode_of, tally_of, none_pending, pending_with, new_state, with_growth, with_pending, zeros, grown, recorded_only, with_copy, checkpointed}
use Rattle.promise.specs.Calls.{settles}
use Rattle.promise.specs.Lists.{drives_of, memory_of, call_outcome, cut_left, later}
use Rattle.promise.specs.Model.{no_block, start_tally, grown_tally, with_blocks, copied_tally, next_window_tally, finished_tally, recorded_tally, restarted_tally, checkpoint_finishes, leaving, saving, recording, advance_step, step_of, start_plain, with_save, with_added, unset, start_model, stepped, accepting, nothing_pending, is_saved, with_step, following, with_call, left_model, after_cut, model_after, modelled}
use Rattle.promise.specs.Promise.{formatted, begin}
use Rattle.promise.specs.WithoutCache.{flushed_after, from_format}
use Rattle.worked.specs.Worked.{worked_start, first_events, copied_events, further_events, finished_events, taken_back, before_read, worked_events, unlawful}
use Rattle.worked.specs.BeyondDoubling.{one_disk, saved_events, running_events, finishing_events, rested_events, grown_events, beyond_events, running_direct, finishing_direct, finished_direct, beyond_direct}
use Rattle.worked.specs.WorkedWithoutCache.{first_direct, cut_direct, before_further, copied_direct, cut_advance, direct_before_read, direct_events}
use Rattle.worked.proofs.FasterCalls.{spliced, applied, all_applied, cuts_applied, medium_seen, same_bytes, state_told, is_record_of, restart_by_writing, faster}
use Rattle.worked.proofs.Computed.{may_leave, each_may_leave, may_run, may_cut, after_call, stores_seen, computed}

-- unfolded, it opens all of them
unfoldable pub computing : Unit {0}
unfolding spliced applied all_applied cuts_applied medium_seen same_bytes state_told is_record_of restart_by_writing faster may_leave each_may_leave may_run may_cut after_call stores_seen computed count every sum table joined first lower lowest refusal refusal_number refusals refusal_with minus_mod moves part_of new_disk disk_after moves_from old_block_spot added_disk added_spot spot_after history disk_count earlier old_count added_count rising spot_of at_new_spot live_spot open_blocks recorded_by moved_blocks live_spot_of waiting calls_left_of moves_now rank_now target_of next_block window_full last_window windows window_of_row mark_of_spot spot_of_mark row_exists old_spot moving window_of moving_in mark_of block_of_mark marked_blocks part_moved next_to_copy are_copied uncopied calls_left no_marks within moving_marks at_rest in_growth zeros_after leading decimal blank is_digit column_step column_fold read_column is_blank field columns mark_bytes ending sector read_field numbers_found marks_found number accepted reported numbers_of record_of state_of size_holds rows_hold disks_hold limits_hold moving_of stage_holds types_hold sound formatted begin place bytes_needed observe cut_store also_pending refused doing reporting telling too_short format_table format_effect format_outcome doubling_rows grow_table_of grow_effect grow_outcome_of write_table write_effect write_outcome read_table read_effect read_outcome copy_table copy_store copy_effect copy_outcome checkpoint_table checkpoint_store checkpoint_effect checkpoint_outcome advance_table checkpoint_told advancing advance_effect advance_outcome flushed_table flushed_effect flushed_outcome geometry history_of disks mode_of tally_of none_pending pending_with new_state with_growth with_pending zeros grown recorded_only with_copy checkpointed drives_of memory_of call_outcome cut_left later no_block start_tally grown_tally with_blocks copied_tally next_window_tally finished_tally recorded_tally restarted_tally checkpoint_finishes leaving saving recording advance_step step_of start_plain with_save with_added unset start_model stepped accepting nothing_pending is_saved with_step following with_call left_model after_cut model_after modelled worked_start first_events copied_events further_events worked_events settles bits word_of finished_events taken_back before_read unlawful flushed_after from_format first_direct cut_direct before_further copied_direct cut_advance direct_before_read direct_events one_disk saved_events running_events finishing_events rested_events grown_events beyond_events running_direct finishing_direct finished_direct beyond_direct source_of
computing = tt
