-- How the queue is kept: a ring that has room for all that may wait.
use Rattle.std.specs.Prelude.{◌≤◌}
use Rattle.std.specs.VecDeque.{deque_len, deque_capacity}
use Rattle.sv_request.specs.Queue.{Queue}
use Rattle.sv_request.specs.declared.requests.Ring.{Ring}

abbrev pub queue : Ring → Queue
queue a = record { capacity = a.capacity; waiting = a.waiting.items }

pub record IsKept (a : Ring) : Type 0 where
  pub within : deque_len a.waiting ≤ a.capacity
  pub roomy : a.capacity ≤ deque_capacity a.waiting
