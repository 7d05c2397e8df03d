-- `token::state::Token::step` meets its contract.
use Rattle.token.proofs.Ends.{short-step, long-step, answer-size}
use Rattle.token.proofs.state.Token.step.Goals as goal

pub returns-then-out-lt-ROOM : goal.returns-then-out-lt-ROOM
returns-then-out-lt-ROOM c = search short-step

pub slice_bounds-answer-end : goal.slice_bounds-answer-end
slice_bounds-answer-end c = search answer-size depth 8

pub returns : goal.returns
returns c = search long-step depth 8
