-- What a worker knows, before and after each step.
use Rattle.std.specs.Prelude.{ℕ, ◌+◌, ◌-◌, Option, Some, None, List, [], ◌∷◌, ◌++◌}
use Rattle.run_board.specs.declared.view.WorkerView.{WorkerView}

-- all shares of a board: as many as it has workers at most
abbrev pub whole_share : ℕ
whole_share = 64

-- the number, if there is one
abbrev pub list_of : Option ℕ → List ℕ
list_of None = []
list_of (Some n) = n ∷ []

module _ {T : Type 0} where
  -- the numbers of the tasks that it took and didn't put back
  abbrev pub taken : WorkerView T → List ℕ
  taken v = v.done ++ list_of v.held

  -- a worker with these shares that took no task, and knows these tasks as handed in
  abbrev pub filled : ℕ → List T → WorkerView T
  filled shares starts = record { held = None; done = []; shares = shares; starts = starts }

  -- nothing is in the queue yet, and the first worker has all shares
  abbrev pub opening : WorkerView T
  opening = filled whole_share []

  -- after the push of a task that was handed in
  abbrev pub after_fill : WorkerView T → T → WorkerView T
  after_fill v task = record v { starts = v.starts ++ task ∷ [] }

  -- after the pop of a task of this number: the one held until then is finished
  abbrev pub after_pop : WorkerView T → ℕ → WorkerView T
  after_pop v number = record v { held = Some number; done = taken v }

  -- after the task held went back into the queue
  abbrev pub after_put_back : WorkerView T → WorkerView T
  after_put_back v = record v { held = None }

  -- after one share went to a new worker
  abbrev pub after_split : WorkerView T → WorkerView T
  after_split v = record v { shares = v.shares - 1 }

  -- the new worker
  abbrev pub newcomer : WorkerView T → WorkerView T
  newcomer v = filled 1 v.starts

  -- two workers in one
  abbrev pub joined : WorkerView T → WorkerView T → WorkerView T
  joined v w = record { held = None; done = taken v ++ taken w; shares = v.shares + w.shares; starts = v.starts }

  -- a worker that was joined to another
  abbrev pub spent : WorkerView T
  spent = filled 0 []
