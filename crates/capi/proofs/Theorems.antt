-- The laws of words and of the exported functions: `capi_laws` proves all of `CapiLaws` in `specs/Laws.antt`.
use Rattle.capi.specs.Laws.{CapiLaws}
use Rattle.capi.proofs.RefusedLaws.{format_number, call_number, address_number_law, holder_number_law, view_number_law, load_number_law, grow_refused, grow_beyond_doubling_refused, copy_refused, checkpoint_refused, advance_refused, format_refused, restart_refused, address_refused, holder_refused, view_refused, load_refused, write_refused, read_refused, flushed_refused, write_keeps, flushed_keeps, read_keeps}
use Rattle.capi.proofs.TableLaws.{table_move_told, table_move_none}
use Rattle.capi.proofs.ViewLaws.{view_told}
use Rattle.capi.proofs.WordLaws.{words_count, state_back, state_arrays, words_back}

pub capi_laws : CapiLaws
capi_laws =
    record {
      words_count = words_count;
      state_back = state_back;
      state_arrays = state_arrays;
      words_back = words_back;
      format_number = format_number;
      call_number = call_number;
      address_number_law = address_number_law;
      holder_number_law = holder_number_law;
      view_number_law = view_number_law;
      load_number_law = load_number_law;
      grow_refused = grow_refused;
      grow_beyond_doubling_refused = grow_beyond_doubling_refused;
      copy_refused = copy_refused;
      checkpoint_refused = checkpoint_refused;
      advance_refused = advance_refused;
      format_refused = format_refused;
      restart_refused = restart_refused;
      address_refused = address_refused;
      holder_refused = holder_refused;
      view_refused = view_refused;
      load_refused = load_refused;
      write_refused = write_refused;
      read_refused = read_refused;
      flushed_refused = flushed_refused;
      write_keeps = write_keeps;
      flushed_keeps = flushed_keeps;
      read_keeps = read_keeps;
      view_told = view_told;
      table_move_told = table_move_told;
      table_move_none = table_move_none;
    }
