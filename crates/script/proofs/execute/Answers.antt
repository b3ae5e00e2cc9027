-- `script::execute` meets its contract: before each turn the elected have executed up to entry i.
use native.Mathlib.Omega.{arith}
use Rattle.script.proofs.Executions.{progress_start, progress_next, progress_end, progress_room}
use Rattle.script.proofs.Queue.{enqueued_length}
use Rattle.script.proofs.execute.Goals as goal

pub loop-i-init : goal.loop-i-init
loop-i-init c = λ es flags ends. (es, progress_start _ flags ends)

pub offset_bounds-list-i : goal.offset_bounds-list-i
offset_bounds-list-i c = let f = c.requires.script_value in let (es, flags, ends, inside, room) = c.requires.flags in omega (arith, inside)

pub bounds-list-i : goal.bounds-list-i
bounds-list-i c = let f = c.requires.script_value in let (es, flags, ends, inside, room) = c.requires.flags in omega (arith, inside)

pub execute_one-after-requires : goal.execute_one-after-requires
execute_one-after-requires c =
    let f = c.requires.script_value in let (es, flags, ends, inside, room) = c.requires.flags in
    let (left, p) = c.loop-i.invariant es flags ends in
    (f, p.within, progress_room left p (omega arith) room)

pub loop-i-preserved : goal.loop-i-preserved
loop-i-preserved c =
    let f = c.requires.script_value in let (es₀, flags₀, ends₀, inside, room) = c.requires.flags in
    λ es flags ends.
    let (left, p) = c.loop-i.invariant es flags ends in
    progress_next left p (omega arith) f _ _ _ c.execute_one-after.ensures

pub shape_of-queue : goal.shape_of-queue
shape_of-queue c =
    let f = c.requires.script_value in let (es, flags, ends, inside, room) = c.requires.flags in
    let (left, p) = c.loop-i.invariant es flags ends in
    enqueued_length p.adds

pub returns : goal.returns
returns c =
    let f = c.requires.script_value in let (es₀, flags₀, ends₀, inside, room) = c.requires.flags in
    let (left₀, p₀) = c.loop-i.invariant es₀ flags₀ ends₀ in
    record {
      used_value = (λ es flags ends. let (left, p) = c.loop-i.invariant es flags ends in progress_end left p (omega arith));
      used_in_bounds = (p₀.within, omega (arith, p₀.few, p₀.adds.ends, ends₀));
    }
