pub mod FunctionLemmas
