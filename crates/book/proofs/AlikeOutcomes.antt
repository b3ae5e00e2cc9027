-- Evaluations that agree, as outcomes of calls: the elected entries are alike, and no question refuses.
use Prim.Native.Nat.{ℕ, ◌≤◌, ◌*◌}
use mathlib.Core.Path.{◌≡◌, refl, sym, ap, ap₂, ◌∙◌}
use mathlib.Core.Bool.{true}
use mathlib.Core.List.{List, [], ◌∷◌, map}
use borrow.Author.Tests.{le-leb}
use lib.ListN.{length, length-map}
use Rattle.error.specs.Answer.{accepted}
use Rattle.error.specs.Questions.{first_no}
use Rattle.pricelevel.specs.declared.Price.{Price}
use Rattle.book.proofs.Agreement.{Agree}
use Rattle.book.proofs.Questions.{first_no_of}
use Rattle.book.proofs.Stops.{Trails, trails_of_sound}
use Rattle.book.proofs.WellFormed.{well_formed-valid}
use Rattle.book.specs.Book.{Book}
use Rattle.book.specs.Calls.{Settings, WalkOutcome, elected_entry, elected_entries, counts_of, pending_in, segment_questions, walk_questions}
use Rattle.book.specs.Evaluation.{Fill, fill_at, Evaluated}
use Rattle.book.specs.Lists.{All}
use Rattle.book.specs.Runs.{Likeness, likeness, DecidedAlike}
use Rattle.book.specs.Sizes.{most_prices}
use Rattle.book.specs.Store.{stored_book}
use Rattle.book.specs.Words.{book_of, well_formed}
use Rattle.book.specs.declared.StopEntry.{StopEntry}
use Rattle.std.specs.Prelude.{None}

------------------------------------------------------------------------
-- Entries: all that two evaluations must agree in comes from the stop that left and the book after it

-- whatever price elects it
likeness_of : Settings → Book → StopEntry → Likeness
likeness_of s b t = likeness (elected_entry s b (record { stop = t; trigger = t.terms.stop }))

likeness-entries : (s : Settings) (b : Book) (l : List Fill)
    → map likeness (map (elected_entry s b) l) ≡ map (likeness_of s b) (map (λ f. f.stop) l)
unfolding likeness elected_entry likeness_of fill_at
likeness-entries s b [] = refl
likeness-entries s b (f ∷ l) = ap (λ (r : List Likeness). likeness_of s b f.stop ∷ r) (likeness-entries s b l)

module _ (s : Settings) (o r : Evaluated) (a : Agree o r) where
  agree_length : length o.fills ≡ length r.fills
  agree_length = sym (length-map o.fills (λ f. f.stop)) ∙ ap length a.stops
      ∙ length-map r.fills (λ f. f.stop)

  agree-entries : map likeness (elected_entries s o) ≡ map likeness (elected_entries s r)
  unfolding elected_entries
  agree-entries =
      likeness-entries s o.book o.fills
      ∙ ap₂ (λ (b : Book) (l : List StopEntry). map (likeness_of s b) l) a.books a.stops
      ∙ sym (likeness-entries s r.book r.fills)

-- what a call answers that no question refuses, of a walk as it stands and of a segment without its moves
abbrev evaluated_outcome : Settings → List ℕ → Evaluated → WalkOutcome
evaluated_outcome s w o = record {
  answer = accepted (counts_of o);
  words = stored_book o.book w;
  elected = elected_entries s o;
}

pub decided_alike : (s : Settings) (w : List ℕ) (o r : Evaluated) → Agree o r
    → DecidedAlike (evaluated_outcome s w o) (evaluated_outcome s w r)
unfolding counts_of elected_entries
decided_alike s w o r a = record {
  elected = length o.fills;
  moves = (counts_of o).moves;
  steps = (counts_of r).moves;
  shorter_answer = refl;
  run_answer = ap (λ (k : ℕ). accepted (record {
    moves = (counts_of r).moves;
    elected = k;
  })) (sym (agree_length s o r a));
  listed = length-map o.fills (elected_entry s o.book);
  alike = agree-entries s o r a;
  stores = ap (λ (b : Book). stored_book b w) a.books;
}

------------------------------------------------------------------------
-- The calls: every question is answered yes

module _ (w : List ℕ) (formed : well_formed w ≡ true) (elected : ℕ) (room : pending_in w ≤ elected) where
  pub segment_accepted : (moved : ℕ) → 2 * pending_in w ≤ moved → first_no (segment_questions w elected moved) ≡ None
  unfolding segment_questions
  segment_accepted moved k =
      first_no_of (segment_questions w elected moved)
      (formed, (rw (le-leb (pending_in w) elected room, le-leb (2 * pending_in w) moved k), tt))

  pub walk_accepted : (prices : List Price) → 1 ≤ length prices → length prices ≤ most_prices
      → first_no (walk_questions prices w elected) ≡ None
  unfolding walk_questions
  walk_accepted prices k l =
      first_no_of (walk_questions prices w elected) (
        formed,
        (
          le-leb (pending_in w) elected room,
          (rw (le-leb 1 (length prices) k, le-leb (length prices) most_prices l), tt),
        ),
      )

-- the stops of a well-formed store trail
pub store_trails : (w : List ℕ) → well_formed w ≡ true → All Trails (book_of w).slots
store_trails w formed =
    trails_of_sound (book_of w).next (book_of w).tick (book_of w).slots (well_formed-valid w formed).sound
