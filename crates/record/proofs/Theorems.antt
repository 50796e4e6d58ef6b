-- The proof of `RecordLaws`.
use Rattle.record.specs.Laws.{RecordLaws}
use Rattle.record.proofs.Lengths.{length_decimal, length_sector}
use Rattle.record.proofs.ColumnLaws.{column_read, blank_read, column_written, blank_written}
use Rattle.record.proofs.SectorLaws.{written_is_read, read_is_written}

pub record_laws : RecordLaws
record_laws =
    record {
      column_length = length_decimal;
      column_read = column_read;
      blank_read = blank_read;
      column_written = column_written;
      blank_written = blank_written;
      sector_length = length_sector;
      written_is_read = written_is_read;
      read_is_written = read_is_written;
    }
