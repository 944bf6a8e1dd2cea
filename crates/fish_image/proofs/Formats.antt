-- What words stand for doesn't depend on the format of the commit.
use Rattle.std.proofs.Common.{ℕ, zero, suc, List, inl, inr}
use Rattle.fish_catalog.specs.declared.commit.Commit.{Commit}
use Rattle.fish_catalog.specs.declared.entry.Entry.{Entry}
use Rattle.fish_layout.specs.declared.parts.BodyParts.{BodyParts}
use Rattle.fish_image.specs.Log.{Agrees, FollowsIn, IsKeptAt, StandsFor}
use Rattle.fish_image.specs.Reached.{Reached}

module _ (c : Commit) (format : ℕ) where
  -- the same in another format
  abbrev other : Commit
  other = record c { format = format }

  -- a record may stand there in any format
  kept_other : (s : Reached) (lines : ℕ) (p : BodyParts) → IsKeptAt c s lines p → IsKeptAt other s lines p
  kept_other s lines p h =
      record { reads = h.reads; in_page = h.in_page; within = h.within; keys = h.keys; links = h.links }

  -- and so does a region
  follows_other : (s n : Reached) (lines : ℕ) (r : List ℕ) → FollowsIn c s lines r n → FollowsIn other s lines r n
  follows_other s n lines r (inl h) =
      inl (record { some = h.0.some; words = h.0.words; crosses = h.0.crosses; within = h.0.within }, h.1)
  follows_other s n lines r (inr h) =
      inr (h.0, record { size = h.1.size; body = h.1.body; number = h.1.number; kept = kept_other s lines h.0 h.1.kept }, h.2)

  -- entries agree in any format
  agrees_other : (w : List ℕ) (k : ℕ) (s : Reached) → Agrees c w k s → Agrees other w k s
  agrees_other w zero s h = h
  agrees_other w (suc k) s h = (h.0, agrees_other w k h.0 h.1, follows_other h.0 s _ _ h.2)

  -- and words stand for the same log
  pub stands_other : (w : List ℕ) (log : List Entry) → StandsFor c w log → StandsFor (record c { format = format }) w log
  stands_other w log h =
      record { end = h.end; agrees = agrees_other w c.count h.end h.agrees; lines = h.lines; entries = h.entries }
