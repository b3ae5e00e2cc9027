-- The calls with their arguments as words: the outcomes of document 01's calls on what the words stand for. Asked
-- before all else: is each value known? 255.
use Rattle.std.specs.Prelude.{ℕ, Bool, cond, ◌&&◌, List, [], map, Option}
use Rattle.error.specs.Answer.{Answer, refused, accepted}
use Rattle.pricelevel.specs.declared.Id.{Id}
use Rattle.pricelevel.specs.declared.Seq.{Seq}
use Rattle.repricing.specs.Preview.{preview}
use Rattle.repricing.specs.declared.Adjustment.{Adjustment}
use Rattle.stop_protection.specs.Collar.{limit_under, check_tick_size}
use Rattle.stop_protection.specs.declared.StopProtection.{StopProtection}
use Rattle.stop_terms.specs.Terms.{trailed_at, elected_at, inconsistency_of, inconsistency_number}
use Rattle.stop_terms.specs.declared.StopTerms.{StopTerms}
use Rattle.stop_trigger.specs.Child.{child_id}
use Rattle.book.specs.Calls.{SegmentOutcome, segment_call, WalkOutcome, walk_call, PassOutcome, pass_call, run_call}
use Rattle.book.specs.declared.Counts.{Counts}
use Rattle.book.specs.declared.PassCounts.{PassCounts}
use Rattle.book.specs.Calls as calls
use Rattle.book.specs.Commit.{AskOutcome, ask_call, same_words, commit_call}
use Rattle.book.specs.Collect.{CollectOutcome, collect, mass_cancel}
use Rattle.book.specs.Ladder.{LadderOutcome, ladder}
use Rattle.book.specs.StepCall.{step_call}
use Rattle.book.specs.TurningPoints.{TurningPointsOutcome, turning_points_call}
use Rattle.book.specs.Path.{recorded, closed, take}
use Rattle.book.specs.Store.{StoreOutcome, PathOutcome, admit, cancel, clear, find}
use Rattle.book.specs.Store as store
use Rattle.book.specs.Words.{side_from}
use Rattle.book.specs.declared.Elected.{Elected}
use Rattle.book.specs.declared.PrintPath.{PrintPath}
use Rattle.book.specs.declared.PrintSegment.{PrintSegment}
use Rattle.book.specs.declared.StopEntry.{StopEntry}
use Rattle.pricelevel.specs.Price.{to_price}
use Rattle.host_words.specs.Answers.{flag, or_zero, path_words}
use Rattle.host_words.specs.Arguments.{is_on, price, id_known, id_of, side_known, terms_known, terms_of, holder_from, selector_known, selector_of, last_price_of, prints_of, path_known, path_of, update_known, update_of, protection_of, namespace_of, settings_of}
use Rattle.stop_protection.specs.declared.LimitPrice.{LimitPrice}

abbrev pub unknown : {A : Type 0} → Answer A
unknown = refused 255

-- the answer where every value is known
abbrev pub if_known : {A : Type 0} → Bool → A → Answer A
if_known known x = cond known (accepted x) unknown

------------------------------------------------------------------------
-- The store and the path

-- what a call on both answers, and every lent word of the two after it
pub record HostOutcome (A : Type 0) : Type 0 where
  pub answer : Answer A
  pub words : List ℕ
  pub path : List ℕ

abbrev pub hosted : {A : Type 0} → PathOutcome A → HostOutcome A
hosted o = record { answer = o.answer; words = o.words; path = path_words o.path }

abbrev pub admit_by_words : ℕ → List ℕ → List ℕ → List ℕ → ℕ → List ℕ → List ℕ → List ℕ → HostOutcome Seq
admit_by_words kill trade id terms quantity holder w path =
    cond (id_known id && (terms_known terms && path_known path))
    (hosted (admit (is_on kill) (last_price_of trade) (id_of id) (terms_of terms) (record { 0 = quantity }) (holder_from holder) w
    (path_of path)))
    (record { answer = unknown; words = w; path = path })

abbrev pub clear_by_words : List ℕ → List ℕ → HostOutcome (Unit {0})
clear_by_words w path = cond (path_known path) (hosted (clear w (path_of path))) (record { answer = unknown; words = w; path = path })

------------------------------------------------------------------------
-- The store

abbrev pub cancel_by_words : List ℕ → List ℕ → StoreOutcome StopEntry
cancel_by_words id w = cond (id_known id) (cancel (id_of id) w) (record { answer = unknown; words = w })

abbrev pub update_by_words : List ℕ → List ℕ → List ℕ → List ℕ → StoreOutcome StopEntry
update_by_words id update trade w =
    cond (id_known id && update_known update) (store.update (update_of update) (id_of id) (last_price_of trade) w)
    (record { answer = unknown; words = w })

abbrev pub find_by_words : List ℕ → List ℕ → Answer (Option StopEntry)
find_by_words id w = cond (id_known id) (find (id_of id) w) unknown

abbrev pub collect_by_words : List ℕ → List ℕ → ℕ → CollectOutcome
collect_by_words selector w list =
    cond (selector_known selector) (collect (selector_of selector) w list) (record { answer = unknown; words = w; listed = [] })

abbrev pub mass_cancel_by_words : List ℕ → List ℕ → ℕ → CollectOutcome
mass_cancel_by_words selector w list =
    cond (selector_known selector) (mass_cancel (selector_of selector) w list)
    (record { answer = unknown; words = w; listed = [] })

abbrev pub ladder_by_words : List ℕ → List ℕ → ℕ → LadderOutcome
ladder_by_words prices w list = ladder (map to_price prices) w list

------------------------------------------------------------------------
-- A run of prices

abbrev pub turning_points_by_words : List ℕ → ℕ → TurningPointsOutcome
turning_points_by_words prices list = turning_points_call (map to_price prices) list

------------------------------------------------------------------------
-- The print path

-- what a call on the path answers, and its lent words after it
pub record PathWordsOutcome (A : Type 0) : Type 0 where
  pub answer : Answer A
  pub path : List ℕ

abbrev pub on_path : {A : Type 0} → List ℕ → A → PrintPath → PathWordsOutcome A
on_path path answer after =
    cond (path_known path) (record { answer = accepted answer; path = path_words after }) (record { answer = unknown; path = path })

abbrev pub record_by_words : ℕ → List ℕ → ℕ → List ℕ → PathWordsOutcome (Unit {0})
record_by_words pending prev p path = on_path path tt (recorded pending (last_price_of prev) (price p) (path_of path))

abbrev pub take_by_words : List ℕ → List ℕ → PathWordsOutcome (Option PrintSegment)
take_by_words trade path =
    on_path path (take (path_of path) (last_price_of trade)).segment (take (path_of path) (last_price_of trade)).path

abbrev pub reset_by_words : List ℕ → PathWordsOutcome (Unit {0})
reset_by_words path = on_path path tt (closed (path_of path))

------------------------------------------------------------------------
-- Evaluation

abbrev pub segment_by_words : List ℕ → List ℕ → List ℕ → ℕ → ℕ → SegmentOutcome
segment_by_words settings prints w elected moved = segment_call (settings_of settings) (prints_of prints) w elected moved

-- asking, and committing with the words of the lists as asked, which are held against those of the entries as they are
abbrev pub ask_by_words : List ℕ → List ℕ → List ℕ → ℕ → ℕ → AskOutcome
ask_by_words settings prints w elected moved = ask_call (settings_of settings) (prints_of prints) w elected moved

abbrev pub commit_by_words : List ℕ → List ℕ → List (List ℕ) → List (List ℕ) → List ℕ → StoreOutcome Counts
commit_by_words settings prints elected moved w =
    commit_call (same_words elected moved) (settings_of settings) (prints_of prints) w

abbrev pub step_by_words : List ℕ → ℕ → List ℕ → ℕ → List ℕ → ℕ → ℕ → SegmentOutcome
step_by_words settings falls from p w elected moved =
    step_call (settings_of settings) (is_on falls) (last_price_of from) (price p) w elected moved

abbrev pub walk_by_words : List ℕ → List ℕ → List ℕ → List ℕ → ℕ → WalkOutcome
walk_by_words settings prev prices w elected = walk_call (settings_of settings) (last_price_of prev) (map to_price prices) w elected

abbrev pub pass_by_words : List ℕ → List ℕ → List ℕ → List ℕ → ℕ → PassOutcome
pass_by_words settings script prints w elected = pass_call (settings_of settings) script (prints_of prints) w elected

pub record RunOutcome : Type 0 where
  pub answer : Answer PassCounts
  pub words : List ℕ
  pub elected : List Elected
  pub path : List ℕ

unfoldable pub hosted_run : calls.RunOutcome → RunOutcome
hosted_run o = record { answer = o.answer; words = o.words; elected = o.elected; path = path_words o.path }

unfoldable pub run_by_words : List ℕ → List ℕ → List ℕ → List ℕ → ℕ → List ℕ → RunOutcome
run_by_words settings script trade w elected path =
    cond (path_known path) (hosted_run (run_call (settings_of settings) script (last_price_of trade) w elected (path_of path)))
    (record { answer = unknown; words = w; elected = []; path = path })

------------------------------------------------------------------------
-- Terms, limit and child

abbrev pub trailed_by_words : List ℕ → ℕ → Answer StopTerms
trailed_by_words terms p = if_known (terms_known terms) (trailed_at (terms_of terms) (price p))

-- 1 or 0, or 255
abbrev pub elected_by_words : List ℕ → ℕ → ℕ
elected_by_words terms p = cond (terms_known terms) (flag (elected_at (terms_of terms) (price p))) 255

abbrev pub inconsistency_by_words : List ℕ → ℕ
inconsistency_by_words terms = cond (terms_known terms) (or_zero (inconsistency_number (inconsistency_of (terms_of terms)))) 255

abbrev pub preview_by_words : ℕ → ℕ → ℕ → ℕ → ℕ → Answer (Option Adjustment)
preview_by_words side stop trail reference p =
    if_known (side_known side) (preview (side_from side) (price stop) trail (price reference) (price p))

abbrev pub limit_by_words : ℕ → ℕ → ℕ → Answer (Option LimitPrice)
limit_by_words collar side stop = if_known (side_known side) (limit_under (protection_of collar) (side_from side) (price stop))

-- a collar is made before it is held against a tick
abbrev pub check_of : ℕ → Answer StopProtection → Answer (Unit {0})
check_of tick (refused k) = refused k
check_of tick (accepted p) = check_tick_size p.collar tick

abbrev pub child_by_words : List ℕ → List ℕ → Answer Id
child_by_words namespace id = if_known (id_known id) (child_id (namespace_of namespace) (id_of id))
