-- `pass_segments::pass_segment` meets its contract.
use mathlib.Core.Path.{◌∙◌}
use native.Mathlib.Omega.{arith}
use Rattle.pass_segments.proofs.Segments.{entries_in, entries_end, entries_inside, entries_flags, entries_count, segment-passed}
use Rattle.pass_segments.proofs.pass_segment.Goals as goal

pub complete-requires : goal.complete-requires
complete-requires c =
    let f = c.requires.script_value in let (b, r, st, room, long) = c.requires.by_index in
    record {
      by_index = (_, r, (c.segment_points-o.ensures b r st).3);
      to_in_bounds = rw c.segment_points-o.auto.list
          (entries_inside c.args.settings _ _ _ _ _ _ c.segment_points-o.ensures st _ long);
    }

pub execute-run-requires : goal.execute-run-requires
execute-run-requires c =
    let f = c.requires.script_value in let (b, r, st, room, long) = c.requires.by_index in
    let inside = entries_inside c.args.settings _ _ _ _ _ _ c.segment_points-o.ensures st _ long in
    let size = c.complete.auto.list ∙ c.segment_points-o.auto.list in
    record {
      script_value = f;
      flags = (
        entries_in c.args.settings c.args.prints b,
        entries_flags c.args.settings _ _ _ _ _ _ c.segment_points-o.ensures st _ c.complete.ensures inside,
        entries_end c.args.settings _ _ _ _ _ _ c.segment_points-o.ensures st,
        rw size inside,
        omega (arith, room, entries_count c.args.settings c.args.prints b),
      );
    }

pub returns : goal.returns
returns c =
    let f = c.requires.script_value in let (b₀, r₀, st₀, room, long) = c.requires.by_index in
    let inside = entries_inside c.args.settings _ _ _ _ _ _ c.segment_points-o.ensures st₀ _ long in
    segment-passed c.args.settings _ _ _ _ _ _ c.segment_points-o.ensures _
    c.complete.ensures inside _ _ _ _ _ _ c.execute-run.ensures.used_value
