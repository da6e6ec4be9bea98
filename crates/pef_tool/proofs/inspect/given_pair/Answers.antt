-- The companion is read after the file.
use Rattle.std.proofs.Common.{inl}
use Rattle.pef_tool.proofs.inspect.given_pair.Goals as goal

pub returns-clause-pair : goal.returns-clause-pair
returns-clause-pair g c = record {
  between = c.read_named-named.new.files;
  rest = c.read_named-named.new.input;
  is = inl c.read_named-named.ensures.read;
  looks = c.read_given-companion.ensures c.args.asked.path.now;
}
