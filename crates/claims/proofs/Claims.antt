-- All claims, gathered. Assumes nothing.
use Prim.Native.Nat.{ℕ}
use Rattle.rules.specs.Batching.{batches_of}
use Rattle.rules.specs.Record.{block_of}
use Rattle.claims.specs.Claims.{Claims}
use Rattle.claims.proofs.Right.{Width, width_8, width_4}
use Rattle.claims.proofs.Ended.{ended_count}
use Rattle.claims.proofs.Sizes.{block_length}
use Rattle.claims.proofs.Arena.{nine_and_eight}
use Rattle.claims.proofs.ReadThenChecked.{encodable}
use Rattle.claims.proofs.Demand1.{demand1}
use Rattle.claims.proofs.Demand3.{takes, demand3, again, once}
use Rattle.claims.proofs.Passes.{build_passes, decode_passes}
use Rattle.claims.proofs.Checked.{shaped_in}
use Rattle.claims.proofs.CheckedThenReturned.{returns, needed}
use Rattle.claims.proofs.Finished.{finished}
use Rattle.claims.proofs.Strict.{strict_reading}
use Rattle.claims.proofs.Compare.{compare}
use Rattle.claims.proofs.Longest.{reached}
use Rattle.claims.proofs.OneList.{one_list}
use Rattle.claims.proofs.Which.{which, passed_on}
use Rattle.claims.proofs.Kept.{unread, unread_by, kept}

pub claims : (w : ℕ) → Width w → Claims w
claims w width =
    record {
      demand1 = demand1 w width;
      demand3 = demand3 w width;
      build_passes = build_passes w width;
      decode_passes = decode_passes w;
      finished = finished w width.eight;
      again = again w;
      once = once w;
      strict = strict_reading w width;
      compare = compare w width.eight;
      reached = reached w width.four width.eight;
      one_list = one_list w width.eight;
      returns = returns;
      needed = needed;
      unread = unread w width.eight;
      unread_by = λ r q e. unread_by r q e w;
      kept = kept;
      which = which;
      passed_on = passed_on w;
      ended_count = ended_count;
      block_length = block_length;
      lent_sized = shaped_in;
      built_sized = λ t xs h. nine_and_eight (block_of (batches_of w t xs)).records (takes w width t xs h).sized;
      read_sized = λ t s at room b next h. nine_and_eight b.records (encodable w t s at room b next h).sized;
    }

pub claims_8 : Claims 8
claims_8 = claims 8 width_8

pub claims_4 : Claims 4
claims_4 = claims 4 width_4
