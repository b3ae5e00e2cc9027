-- `points::elect_on` meets its contract.
use Rattle.points.proofs.elect_on.Goals as goal

pub returns : goal.returns
returns c =
    λ b r st.
    let (end, list) = c.list_elected-end.ensures b r st in
    (end, list, (c.take_elected.ensures b r st).1)
