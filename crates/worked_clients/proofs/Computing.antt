-- The definitions that a list of the stations' calls is computed with.
use Rattle.base.specs.Refusals.{row_after}
use Rattle.spans.specs.Spans.{reaches, short, in_span, apart, spans_hold, owned_by, allowed}
use Rattle.clients.specs.ClientCalls.{span_row, client_read_table, client_write_table, client_read, client_write}
use Rattle.clients.specs.Stations.{rack_call, call_of, calls_of, station_outcome}
use Rattle.worked.proofs.Computing.{computing}
use Rattle.worked_clients.specs.Runs.{two_disks, one_each, last_two, three_disks, two_and_one}
use Rattle.worked_clients.proofs.Computed.{faster_stations, computed_stations}
use Rattle.worked_clients.proofs.Covered.{begins_flushed, writes_flushed, list_test, seen}

-- unfolded, it opens all of them
unfoldable pub stations_computing : Unit {0}
unfolding computing row_after reaches short in_span apart spans_hold owned_by allowed span_row client_read_table client_write_table client_read client_write rack_call call_of calls_of station_outcome two_disks one_each last_two three_disks two_and_one faster_stations computed_stations begins_flushed writes_flushed list_test seen
stations_computing = tt
