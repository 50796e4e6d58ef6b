-- The laws of views: `view_laws` proves all of `ViewLaws` in `specs/Laws.antt`.
use mathlib.Core.Path.{sym, ◌∙◌}
use lib.ListN.{length}
use Rattle.shelves.specs.Laws.{ViewLaws}
use Rattle.shelves.specs.Views.{view_answer, view_of}
use Rattle.shelves.proofs.Cases.{view_cases}
use Rattle.shelves.proofs.Refusing.{view_told, view_refuses}
use Rattle.shelves.proofs.SameViews.{spare_not_shown, no_second, pending_shown, of_medium}
use Rattle.shelves.proofs.Showing.{shown_empty, joined_length, same_number, view_shows, empty_refused}
use Rattle.shelves.proofs.Standing.{answer_stands}

pub view_laws : ViewLaws
unfolding view_of
view_laws =
    record {
      view_refuses = view_refuses;
      stands = answer_stands;
      refused_empty = λ v first second k x. shown_empty v.size first second (view_answer v (length first) (length second) k x);
      empty_refused = empty_refused;
      view_shows = λ v first second k x e. view_shows v first second k x (sym (view_told v (length first) (length second) k x) ∙ e);
      joined_length = joined_length;
      same_number = same_number;
      spare_not_shown = spare_not_shown;
      no_second = no_second;
      pending_shown = pending_shown;
      of_medium = of_medium;
      view_cases = view_cases;
    }
