pub mod ParamsTold
pub mod ParamsWays
pub mod ParamsLeft
