-- Where a session stands, beside the job whose run it debugs.
use Rattle.std.specs.Prelude.{ℕ, Bool, true, List, [], codes}
use Rattle.run_travel.specs.Stops.{PointsAt}

-- the time, which is how many steps are done; the points, in the order in which they were set; the packet of the last
-- stop; whether frames are acknowledged; and the bytes of the last answer
pub record SessionAt : Type 0 where
  pub time : ℕ
  pub points : PointsAt
  pub stop : List ℕ
  pub acknowledged : Bool
  pub last : List ℕ

-- a session begins at a time, without points, as if a signal had stopped it there
abbrev pub begun : ℕ → SessionAt
begun t = record {
  time = t;
  points = record { breaks = []; watches = [] };
  stop = codes "T05";
  acknowledged = true;
  last = [];
}
