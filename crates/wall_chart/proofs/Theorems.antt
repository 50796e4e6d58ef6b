-- `chart_laws`: all of `ChartLaws`.
use Rattle.wall_chart.specs.Laws.{ChartLaws}
use Rattle.wall_chart.proofs.Lengths.{length_chart}
use Rattle.wall_chart.proofs.Places.{heading_first, disk_number, row_number, cell_of_holder, line_end}
use Rattle.wall_chart.proofs.CellLaws.{disk_told, row_told, cell_told, dash_no_number, at_rest_all_told, record_chart}
use Rattle.wall_chart.proofs.PageLaws.{chart_refuses, chart_fills, record_refuses, record_fills}

pub chart_laws : ChartLaws
chart_laws =
    record {
      chart_length = length_chart;
      heading_first = heading_first;
      disk_number = disk_number;
      row_number = row_number;
      cell_of_holder = cell_of_holder;
      line_end = line_end;
      disk_told = disk_told;
      row_told = row_told;
      cell_told = cell_told;
      dash_no_number = dash_no_number;
      at_rest_all_told = λ v disk row s rest d h. at_rest_all_told v disk row s d h rest;
      record_chart = record_chart;
      chart_refuses = chart_refuses;
      chart_fills = chart_fills;
      record_refuses = record_refuses;
      record_fills = record_fills;
    }
