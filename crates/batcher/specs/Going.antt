-- No public contract cites this page: how the work in hand and the three lent runs hold the rules' work, and what each turn of the driver keeps.
use Rattle.std.specs.Prelude.{◌≡◌, List, ◌++◌, map, ℕ, ◌*◌, ◌≤◌, length, drop}
use Rattle.rules.specs.Lists.{fitted}
use Rattle.rules.specs.Answer.{good, refuse_first}
use Rattle.rules.specs.Operations.{operations, codes, values, op_fault}
use Rattle.rules.specs.Batching as rule
use Rattle.rules.specs.Batching.{start, steps, batches_of}
use Rattle.rules.specs.Record.{padded_of, record_of, block_of, record_bytes, records_bytes}
use Rattle.rules.specs.Functions.{Arena}
use Rattle.accumulator.specs.Good.{Good}
use Rattle.accumulator.specs.View.{acc_of, ops_so_far, drafted, record_with}
use Rattle.batcher.specs.declared.Work.{Work}
use Rattle.batcher.specs.Batched.{listed}

-- ---- the work in hand: `e` are the runs as they came, `a` as they are now; `w` is the width

pub record InHand (w : ℕ) (e : Arena) (t : List ℕ) (d : rule.Work) (s : Work) (a : Arena) : Type 0 where
  pub acc : s.acc ≡ acc_of t d.current
  pub good : Good w (acc_of t d.current)
  pub base : s.base ≡ length (padded_of d.batches)
  pub batches : s.batches ≡ length d.batches
  pub codes : a.codes ≡ fitted (length e.codes) (codes (padded_of d.batches ++ ops_so_far d.current))
  pub values : a.values ≡ fitted (length e.values) (values (padded_of d.batches ++ ops_so_far d.current))
  pub records : a.records ≡ fitted (length e.records) (records_bytes (map record_of d.batches) ++ record_bytes (record_with 0 (drafted d.current)))

-- No operation so far is at fault, and what is left of the lists takes the work in hand to the whole result.
pub record Going (w : ℕ) (e : Arena) (t xs ys : List ℕ) (i : ℕ) (s : Work) (a : Arena) : Type 0 where
  pub work : rule.Work
  pub held : InHand w e t work s a
  pub fine : refuse_first i (map (op_fault t) (operations (drop i xs) (drop i ys))) (good (block_of (batches_of w t (operations xs ys)))) ≡ listed w t xs ys
  pub rest : steps w t (operations (drop i xs) (drop i ys)) work ≡ steps w t (operations xs ys) start
  pub base : s.base ≤ 72 * i
  pub batches : s.batches ≤ i
