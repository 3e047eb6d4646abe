use Rattle.replayer.proofs.stage.Stage.depart.Goals as goal

pub depart_with-requires-clause-next : goal.depart_with-requires-clause-next
depart_with-requires-clause-next g c = rw (c.in-Some-Ends.is, c.in-Some-Ends.field-0-is) at c.in_ok-response.ensures.next
