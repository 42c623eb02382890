use Rattle.std.proofs.Common.{◌∷◌, ◌++◌, [], map}
use Rattle.std.proofs.lemmas.List.{map-append}
use Rattle.mf_shared.specs.Whole.{told_by}
use Rattle.mf_crew.proofs.Dealing.{seats_push}
use Rattle.mf_crew.proofs.jobs.seats_of.Goals as goal

pub loop-access-preserved : goal.loop-access-preserved
loop-access-preserved g c =
    seats_push (map told_by c.loop-access.yielded) (map told_by (c.loop-access.yielded ++ c.in-Some.access ∷ []))
    c.loop-access.seats.items c.push.new.self.items (told_by c.in-Some.access) c.seat_of.result c.loop-access.invariant
    c.seat_of.ensures (map-append told_by c.loop-access.yielded (c.in-Some.access ∷ [])) c.in_ok-push.ensures.items
