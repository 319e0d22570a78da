-- What a transaction is, of which its view holds the places.
use Rattle.std.specs.Prelude.{◌≡◌, ℕ, ◌<◌, ◌^◌, List, [], length, Option, Some, None}
use Rattle.std.specs.Borrow.{Bor}
use Rattle.uo_base.specs.Reading.{things, HasThings}
use Rattle.tx_codec.specs.declared.body.Core.{Core}
use Rattle.tx_codec.specs.declared.whole.TxParts.{TxParts}
use Rattle.tx_codec.specs.Transaction.{Input, Output, Transaction, core_text, tx_text, Fits}
use Rattle.tx_codec.specs.Reading.{input_at, output_at, stack_at}

-- ---- inputs and outputs

abbrev pub inputs_of : Core → List Input
inputs_of c = things input_at c.input_count c.inputs.now

abbrev pub outputs_of : Core → List Output
outputs_of c = things output_at c.output_count c.outputs.now

abbrev pub core_of : Core → List Input × List Output
core_of c = (inputs_of c, outputs_of c)

-- both lists can be read
pub record HasLists (c : Core) : Type 0 where
  pub inputs : HasThings input_at c.input_count c.inputs.now
  pub outputs : HasThings output_at c.output_count c.outputs.now

-- its bytes are the text of its lists
pub record IsCore (c : Core) : Type 0 where
  pub lists : HasLists c
  pub text : c.bytes.now ≡ core_text (inputs_of c) (outputs_of c)

-- ---- the whole

-- the stacks of n inputs
abbrev pub stacks_of : ℕ → Option (Bor (List ℕ)) → List (List (List ℕ))
stacks_of n None = []
stacks_of n (Some bytes) = things stack_at n bytes.now

abbrev pub HasStacks : ℕ → Option (Bor (List ℕ)) → Type 0
HasStacks n None = Unit {0}
HasStacks n (Some bytes) = HasThings stack_at n bytes.now

abbrev pub whole : TxParts → Transaction
whole p = record {
  version = p.version;
  inputs = inputs_of p.core;
  outputs = outputs_of p.core;
  stacks = stacks_of p.core.input_count p.stacks;
  lock_time = p.lock_time;
}

-- each list can be read
pub record IsParts (p : TxParts) : Type 0 where
  pub is_core : IsCore p.core
  pub has_stacks : HasStacks p.core.input_count p.stacks

-- the bytes are the transaction's text
pub record IsTxView (bytes : List ℕ) (p : TxParts) : Type 0 where
  pub parts : IsParts p
  pub fits : Fits (whole p)
  pub text : bytes ≡ tx_text (whole p)
  pub short : length bytes < 2 ^ 32
