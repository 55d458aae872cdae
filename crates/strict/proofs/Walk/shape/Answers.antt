use Rattle.strict.proofs.Records.{record_there}
use Rattle.strict.proofs.Walk.shape.Goals as goal

pub sizes-requires : goal.sizes-requires
sizes-requires c = record_there _ _ _ c.args.self.now.judged.runs c.requires
