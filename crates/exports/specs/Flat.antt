-- The replies that cross to Rust, by what the library's own replies tell. Private contracts cite it.
use Rattle.std.specs.Prelude.{ℕ, Option, None, Some, Result, Ok, Err}
use Rattle.rules.specs.Answer.{Answer, good, refused}
use Rattle.batcher.specs.declared.Totals.{Totals}
use Rattle.decoder.specs.declared.Decoded.{Decoded}
use Rattle.head.specs.declared.Headed.{Headed}
use Rattle.comparison.specs.Replies.{Marked}
use Rattle.op_batch.specs.declared.Place.{Place}
use Rattle.exports.specs.declared.BuildReply.{BuildReply}
use Rattle.exports.specs.declared.EncodeReply.{EncodeReply}
use Rattle.exports.specs.declared.DecodeReply.{DecodeReply}
use Rattle.exports.specs.declared.HeadReply.{HeadReply}
use Rattle.exports.specs.declared.CompareReply.{CompareReply}
use Rattle.exports.specs.declared.TableReply.{TableReply}
use Rattle.exports.specs.declared.IndexReply.{IndexReply}
use Rattle.exports.specs.declared.GroupReply.{GroupReply}
use Rattle.exports.specs.declared.NextReply.{NextReply}

abbrev pub flat_built : Answer Totals → BuildReply
flat_built (good t) = record { number = 0; place = 0; batches = t.batches; operations = t.operations }
flat_built (refused n p) = record { number = n; place = p; batches = 0; operations = 0 }

abbrev pub flat_encoded : Answer ℕ → EncodeReply
flat_encoded (good n) = record { number = 0; place = 0; length = n }
flat_encoded (refused n p) = record { number = n; place = p; length = 0 }

abbrev pub flat_decoded : Answer Decoded → DecodeReply
flat_decoded (good d) = record { number = 0; place = 0; batches = d.batches; operations = d.operations; used = d.used }
flat_decoded (refused n p) = record { number = n; place = p; batches = 0; operations = 0; used = 0 }

abbrev pub flat_headed : Answer Headed → HeadReply
flat_headed (good h) = record { number = 0; place = 0; batches = h.batches; operations = h.operations }
flat_headed (refused n p) = record { number = n; place = p; batches = 0; operations = 0 }

abbrev pub flat_compared : Result ℕ Marked → CompareReply
flat_compared (Ok e) = record { mark = 0; number = 0; place = 0; entries = e }
flat_compared (Err m) = record { mark = m.mark; number = m.number; place = m.place; entries = 0 }

abbrev pub flat_tabled : Answer ℕ → TableReply
flat_tabled (good e) = record { number = 0; place = 0; entries = e }
flat_tabled (refused n p) = record { number = n; place = p; entries = 0 }

abbrev pub flat_index : Option ℕ → IndexReply
flat_index None = record { found = 0; index = 0 }
flat_index (Some i) = record { found = 1; index = i }

abbrev pub flat_group : Answer (Option Place) → GroupReply
flat_group (good None) = record { number = 0; place = 0; found = 0; group = 0; position = 0 }
flat_group (good (Some p)) = record { number = 0; place = 0; found = 1; group = p.group; position = p.place }
flat_group (refused n p) = record { number = n; place = p; found = 0; group = 0; position = 0 }

abbrev pub flat_next : Answer (Option ℕ) → NextReply
flat_next (good None) = record { number = 0; place = 0; found = 0; group = 0 }
flat_next (good (Some g)) = record { number = 0; place = 0; found = 1; group = g }
flat_next (refused n p) = record { number = n; place = p; found = 0; group = 0 }
