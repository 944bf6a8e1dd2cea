-- The bytes tell the commit, so they are as many as those of a slot's body.
use Rattle.fish_image.proofs.Spelling.{told_length}
use Rattle.fish_image.proofs.slot.slot_body.Goals as goal

pub returns-clause-body : goal.returns-clause-body
returns-clause-body c = record { commit = c.in_ok-body.ensures.commit; bytes = c.in_ok-body.ensures.bytes }

pub returns-clause-size : goal.returns-clause-size
returns-clause-size c =
    told_length c.args.c.now c.in_ok-body.body (record { commit = c.in_ok-body.ensures.commit; bytes = c.in_ok-body.ensures.bytes })
